-- What the queue towards an end may hold.
use Rattle.std.proofs.Common.{◌≡◌, sym, ◌∙◌, false, List, [], ◌∷◌, ◌++◌, ◌⊎◌, inl, inr, ℕ, suc, ◌%◌, ◌+◌, ◌≤◌, ◌<◌, max, arith, length, get_or, length-append}
use lib.ListN.{get_or-append}
use Rattle.frame.specs.declared.Format.{Format}
use Rattle.frame.specs.declared.Heard.{Heard}
use Rattle.frame.specs.declared.Heard.TheVariants.{Size, Sum, Ack, Nak, Data}
use Rattle.frame.specs.Steps.{heard, packet_in}
use Rattle.pair.specs.System.{Harm, lost, damaged, later}

-- a frame that neither frees nor delivers: damaged, or a NAK
pub data Idle : Heard → Type 0 where
  by_size : Idle Size
  by_sum : Idle Sum
  a-nak : (number : ℕ) → Idle (Nak number)

-- Line format t h b e q: of the packets t that the other end took, the data in q that is not the next to be delivered has been delivered, h being
-- at least the number that will be expected when q's head arrives; and the acknowledgements in q rise from b to e. Both are counted from the
-- start: data f is packet f, and the acknowledgement x says that x packets have arrived.
pub data Line (format : Format) (t : List (List ℕ)) : ℕ → ℕ → ℕ → List (List ℕ) → Type 0 where
  clear : {h b e : ℕ} → h ≤ length t → b ≤ e → Line format t h b e []
  data-next : {h b e : ℕ} {frame : List ℕ} {q : List (List ℕ)} (f x len : ℕ) → heard format frame ≡ Data (f % 4) false ((x + 3) % 4) len
      → packet_in frame len ≡ get_or t f [] → 1 ≤ len → h ≤ f + 2 → b ≤ x → Line format t (max h (suc f)) x e q → Line format t h b e (frame ∷ q)
  ack-next : {h b e : ℕ} {frame : List ℕ} {q : List (List ℕ)} (x : ℕ) → heard format frame ≡ Ack ((x + 3) % 4) → b ≤ x → Line format t h x e q → Line format t h b e (frame ∷ q)
  idle-next : {h b e : ℕ} {frame : List ℕ} {q : List (List ℕ)} → Idle (heard format frame) → Line format t h b e q → Line format t h b e (frame ∷ q)

module _ (format : Format) (t : List (List ℕ)) where
  -- ---- bounds

  pub line_taken : {h b e : ℕ} (q : List (List ℕ)) → Line format t h b e q → h ≤ length t
  line_taken [] (clear p r) = p
  line_taken {h = h} (frame ∷ q) (data-next f x len m p s u v w) = omega (arith, line_taken {h = max h (suc f)} q w)
  line_taken (frame ∷ q) (ack-next x m v w) = line_taken q w
  line_taken (frame ∷ q) (idle-next m w) = line_taken q w

  pub line_freed : {h b e : ℕ} (q : List (List ℕ)) → Line format t h b e q → b ≤ e
  line_freed [] (clear p r) = r
  line_freed {h = h} (frame ∷ q) (data-next f x len m p s u v w) = omega (arith, line_freed {h = max h (suc f)} q w)
  line_freed (frame ∷ q) (ack-next x m v w) = omega (arith, line_freed q w)
  line_freed (frame ∷ q) (idle-next m w) = line_freed q w

  pub line_mono : {h b e h₁ b₁ e₁ : ℕ} (q : List (List ℕ)) → h₁ ≤ h → b₁ ≤ b → e ≤ e₁ → Line format t h b e q → Line format t h₁ b₁ e₁ q
  line_mono {h₁ = h₁} {b₁ = b₁} {e₁ = e₁} [] i j k (clear p r) = clear {h = h₁} {b = b₁} {e = e₁} (omega arith) (omega arith)
  line_mono {h = h} {h₁ = h₁} {b₁ = b₁} (frame ∷ q) i j k (data-next f x len m p s u v w) =
      data-next {h = h₁} {b = b₁} f x len m p s (omega arith) (omega arith) (line_mono {h = max h (suc f)} {b = x} {h₁ = max h₁ (suc f)} {b₁ = x} q (omega arith) (omega arith) k w)
  line_mono {b₁ = b₁} (frame ∷ q) i j k (ack-next x m v w) = ack-next {b = b₁} x m (omega arith) (line_mono {b = x} {b₁ = x} q i (omega arith) k w)
  line_mono (frame ∷ q) i j k (idle-next m w) = idle-next m (line_mono q i j k w)

  -- ---- the line

  pub line_tail : {h b e : ℕ} (frame : List ℕ) (q : List (List ℕ)) → Line format t h b e (frame ∷ q) → Line format t h b e q
  line_tail {h} {b} {e} frame q (data-next f x len m p s u v w) = line_mono {h = max h (suc f)} {e = e} {h₁ = h} {e₁ = e} q (omega arith) v (omega arith) w
  line_tail {h} {b} {e} frame q (ack-next x m v w) = line_mono {h = h} {e = e} {h₁ = h} {e₁ = e} q (omega arith) v (omega arith) w
  line_tail frame q (idle-next m w) = w

  damage-idle : (frame : List ℕ) → (heard format frame ≡ Size) ⊎ (heard format frame ≡ Sum) → Idle (heard format frame)
  damage-idle frame (inl m) = rw m by_size
  damage-idle frame (inr m) = rw m by_sum

  pub line_harm : {h b e : ℕ} (q r : List (List ℕ)) → Harm format q r → Line format t h b e q → Line format t h b e r
  line_harm [] r harm w = elim harm [ ]
  line_harm (frame ∷ q) r (lost frame₁ q₁) w = line_tail frame q w
  line_harm (frame ∷ q) (other ∷ r) (damaged frame₁ other₁ q₁ m) w = idle-next (damage-idle other m) (line_tail frame q w)
  line_harm {h} (frame ∷ q) (frame₂ ∷ r) (later frame₁ q₁ r₁ k) (data-next f x len m p s u v w) = data-next f x len m p s u v (line_harm {h = max h (suc f)} q r k w)
  line_harm (frame ∷ q) (frame₂ ∷ r) (later frame₁ q₁ r₁ k) (ack-next x m v w) = ack-next x m v (line_harm q r k w)
  line_harm (frame ∷ q) (frame₂ ∷ r) (later frame₁ q₁ r₁ k) (idle-next m w) = idle-next m (line_harm q r k w)

  -- ---- what the other end sends

  -- a frame goes behind the others: it is enough to know that it may go where nothing is on its way
  line-end : {h b e : ℕ} (frame : List ℕ) (q : List (List ℕ)) → ((h b : ℕ) → h ≤ length t → b ≤ e → Line format t h b e (frame ∷ [])) → Line format t h b e q
      → Line format t h b e (q ++ (frame ∷ []))
  line-end {h} {b} frame [] alone (clear p r) = alone h b p r
  line-end {h} frame (other ∷ q) alone (data-next f x len m p s u v w) = data-next f x len m p s u v (line-end {h = max h (suc f)} frame q alone w)
  line-end frame (other ∷ q) alone (ack-next x m v w) = ack-next x m v (line-end frame q alone w)
  line-end frame (other ∷ q) alone (idle-next m w) = idle-next m (line-end frame q alone w)

  pub line_data : {h b e : ℕ} (f len : ℕ) (frame : List ℕ) (q : List (List ℕ)) → heard format frame ≡ Data (f % 4) false ((e + 3) % 4) len
      → packet_in frame len ≡ get_or t f [] → 1 ≤ len → f < length t → length t ≤ f + 2 → Line format t h b e q → Line format t h b e (q ++ (frame ∷ []))
  line_data {e = e} f len frame q m p s lt le =
      line-end frame q
      (λ h b a c. data-next {h = h} {b = b} {e = e} f e len m p s (omega arith) c (clear {h = max h (suc f)} {b = e} {e = e} (omega arith) (omega arith)))

  pub line_ack : {h b e : ℕ} (frame : List ℕ) (q : List (List ℕ)) → heard format frame ≡ Ack ((e + 3) % 4) → Line format t h b e q → Line format t h b e (q ++ (frame ∷ []))
  line_ack {e = e} frame q m = line-end frame q (λ h b a c. ack-next e m c (clear {b = e} {e = e} a (omega arith)))

  pub line_idle : {h b e : ℕ} (frame : List ℕ) (q : List (List ℕ)) → Idle (heard format frame) → Line format t h b e q → Line format t h b e (q ++ (frame ∷ []))
  line_idle frame q m = line-end frame q (λ h b a c. idle-next m (clear a c))

-- the other end takes one more packet
pub line_more : (format : Format) (t : List (List ℕ)) (packet : List ℕ) {h b e : ℕ} (q : List (List ℕ)) → Line format t h b e q → Line format (t ++ (packet ∷ [])) h b e q
line_more format t packet {h} [] (clear p r) = clear {h = h} (rw length-append (omega arith)) r
line_more format t packet {h} (frame ∷ q) (data-next f x len m p s u v w) =
    data-next f x len m (p ∙ sym (get_or-append t (packet ∷ []) [] f (omega (arith, line_taken format t q w)))) s u v (line_more format t packet {h = max h (suc f)} q w)
line_more format t packet (frame ∷ q) (ack-next x m v w) = ack-next x m v (line_more format t packet q w)
line_more format t packet (frame ∷ q) (idle-next m w) = idle-next m (line_more format t packet q w)
