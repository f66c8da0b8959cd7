-- The numbers that the calls return: R8.0 to R8.18, which also say what each leaves; their order R9.1; later ones R9.4. Those from 19 on are
-- named for calls to come, and no call returns them yet (DECISIONS D89).
use Rattle.std.specs.Prelude.{◌≡◌, ℕ, ◌<◌, ◌⊎◌, cond, ◌==◌, Result, Ok, Err, MatchResult}
use Rattle.base.specs.declared.answer.Refusal.{Refusal}
use Rattle.base.specs.declared.answer.Refusal.TheVariants.{OutOfRange, ShortBuffer, LinkLost, PacketSize, WindowFull, FrameSum, UnusedCode, ControlSize, Unexpected, ChainFault, OtherChannel, SecuredPacket, MessageSize, TooLong, FaultTold, NoSuchPacket, FrameSize, FrameLength, UnknownRegister, RegisterAccess, RegisterSize, RegisterValue, OutboxFull, OutboxRoom, NumberHeld, NumberNotHeld, MessageBegun, ChannelCount, RestartCount, ImageLength, ImageVersion, ImageField, BlockLimit, BlockLength, BlockSum, BlockHead, BlockNumber, BlockChain, FalseLength}

-- R8.0: the call was carried out
abbrev pub done : ℕ
done = 0

-- R8.1: a setting, or a state, outside its limits
abbrev pub out_of_range : ℕ
out_of_range = 1

-- R8.2: what is lent has too few bytes
abbrev pub short_buffer : ℕ
short_buffer = 2

-- R8.3: the link is lost
abbrev pub link_lost : ℕ
link_lost = 3

-- R8.4: an empty packet, or one beyond m
abbrev pub packet_size : ℕ
packet_size = 4

-- R8.5: the window is full
abbrev pub window_full : ℕ
window_full = 5

-- R8.6: a frame whose checksum is wrong, by step 1
abbrev pub frame_sum : ℕ
frame_sum = 6

-- R8.7: an FCTR out of use, by step 2
abbrev pub unused_code : ℕ
unused_code = 7

-- R8.8: a control frame of a wrong size, by step 3
abbrev pub control_size : ℕ
control_size = 8

-- R8.9: data out of turn, by step 7
abbrev pub unexpected : ℕ
unexpected = 9

-- R8.10: a packet that does not fit its chain
abbrev pub chain_fault : ℕ
chain_fault = 10

-- R8.14: the message grows past 4,096 bytes
abbrev pub too_long : ℕ
too_long = 14

-- R8.15: the peer tells of a fault in a chain
abbrev pub fault_told : ℕ
fault_told = 15

-- R8.11: a packet of a channel not built
abbrev pub other_channel : ℕ
other_channel = 11

-- R8.12: a secured packet that begins a message
abbrev pub secured_packet : ℕ
secured_packet = 12

-- R8.13: an empty message, or one beyond 4,096
abbrev pub message_size : ℕ
message_size = 13

-- R8.16: the message has no packet of that number
abbrev pub no_such_packet : ℕ
no_such_packet = 16

-- R8.17: a frame of fewer than 5 or more than D bytes, by step 1
abbrev pub frame_size : ℕ
frame_size = 17

-- R8.18: a data frame whose LEN is 0, or not its size less 5, by step 4
abbrev pub frame_length : ℕ
frame_length = 18

-- ---- R9.4, numbers for calls to come: registers

-- an address at which the chip has no register
abbrev pub unknown_register : ℕ
unknown_register = 19

-- a read of a register that is only written, or a write to one that is only read
abbrev pub register_access : ℕ
register_access = 20

-- another number of bytes than the register has
abbrev pub register_size : ℕ
register_size = 21

-- a value that the register may not be given
abbrev pub register_value : ℕ
register_value = 22

-- ---- the outbox

-- it holds as many messages as it can
abbrev pub outbox_full : ℕ
outbox_full = 23

-- the message does not fit its room beside those held
abbrev pub outbox_room : ℕ
outbox_room = 24

-- a message of that number is held already
abbrev pub number_held : ℕ
number_held = 25

-- none of that number is held
abbrev pub number_not_held : ℕ
number_not_held = 26

-- the link has taken a packet of it
abbrev pub message_begun : ℕ
message_begun = 27

-- ---- channels, restarts

-- a number of channels that is not 1 to 16
abbrev pub channel_count : ℕ
channel_count = 28

-- more unattended restarts than 3
abbrev pub restart_count : ℕ
restart_count = 29

-- ---- images

-- the lent bytes, or the length in the image, are not an image's
abbrev pub image_length : ℕ
image_length = 30

-- a version byte that is not known
abbrev pub image_version : ℕ
image_version = 31

-- a field that no well-formed state has
abbrev pub image_field : ℕ
image_field = 32

-- ---- T=1 blocks

-- an IFS that is not 1 to 254
abbrev pub block_limit : ℕ
block_limit = 33

-- a block cut short, or one whose LEN is 0 or above IFS
abbrev pub block_length : ℕ
block_length = 34

-- a block whose LRC is not that of its bytes
abbrev pub block_sum : ℕ
block_sum = 35

-- a NAD that is not 0, or a PCB that is no I-block's
abbrev pub block_head : ℕ
block_head = 36

-- a block whose N(S) is not the next in turn
abbrev pub block_number : ℕ
block_number = 37

-- a marked block that is not full, a chain without a last block, or bytes behind it
abbrev pub block_chain : ℕ
block_chain = 38

-- ---- a message's own length

-- a finished message whose Len is not its size less 4
abbrev pub false_length : ℕ
false_length = 39

-- ---- an order of refusals

-- R9.1: the first of two answers that refuses; every gate is built of it, and names its own order
abbrev pub first_refusal : ℕ → ℕ → ℕ
first_refusal a b = cond (a == done) b a

-- ---- why a call refuses

-- R8: the answer's number
abbrev pub number_of : Refusal → ℕ
number_of OutOfRange = out_of_range
number_of ShortBuffer = short_buffer
number_of LinkLost = link_lost
number_of PacketSize = packet_size
number_of WindowFull = window_full
number_of FrameSum = frame_sum
number_of UnusedCode = unused_code
number_of ControlSize = control_size
number_of Unexpected = unexpected
number_of ChainFault = chain_fault
number_of OtherChannel = other_channel
number_of SecuredPacket = secured_packet
number_of MessageSize = message_size
number_of TooLong = too_long
number_of FaultTold = fault_told
number_of NoSuchPacket = no_such_packet
number_of FrameSize = frame_size
number_of FrameLength = frame_length
number_of UnknownRegister = unknown_register
number_of RegisterAccess = register_access
number_of RegisterSize = register_size
number_of RegisterValue = register_value
number_of OutboxFull = outbox_full
number_of OutboxRoom = outbox_room
number_of NumberHeld = number_held
number_of NumberNotHeld = number_not_held
number_of MessageBegun = message_begun
number_of ChannelCount = channel_count
number_of RestartCount = restart_count
number_of ImageLength = image_length
number_of ImageVersion = image_version
number_of ImageField = image_field
number_of BlockLimit = block_limit
number_of BlockLength = block_length
number_of BlockSum = block_sum
number_of BlockHead = block_head
number_of BlockNumber = block_number
number_of BlockChain = block_chain
number_of FalseLength = false_length

-- R8, the other way: the refusal that has this number; there is none only where it is 0, or beyond the last
abbrev pub Numbered : {E : Type 0} → ℕ → Result Refusal E → Type 0
Numbered answer r = MatchResult r (λ refusal. number_of refusal ≡ answer) (λ e. (answer ≡ done) ⊎ (false_length < answer))

-- R9.1: what a gate says, as an answer: 0 where it lets the call in
abbrev pub answer_of : {A : Type 0} → Result A Refusal → ℕ
answer_of (Ok a) = done
answer_of (Err r) = number_of r
