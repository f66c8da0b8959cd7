-- What the writers cite: stores and puts, one behind the other, are a frame.
use Rattle.std.proofs.Common.{◌≡◌, refl, sym, ap, ◌∙◌, List, ◌∷◌, ◌++◌, ℕ, ◌+◌, ◌≤◌, add-one, arith, length, take, set, get_or, length-append, length-take-le}
use Rattle.base.specs.Buffer.{put}
use Rattle.base.proofs.Put.{put-take, put-put, put_sets, put_front, put_over}
use Rattle.fcs.specs.Checksum.{checksum_of}
use Rattle.frame.specs.declared.Format.{Format}
use Rattle.frame.specs.Bytes.{len_bytes, fcs_bytes, sealed, frame_of, Written}

pub sealed-length : (format : Format) (covered : List ℕ) → length (sealed format covered) ≡ length covered + 2
unfolding sealed
sealed-length format covered = length-append covered (fcs_bytes format (checksum_of covered))

pub frame_of-length : (format : Format) (fctr : ℕ) (packet : List ℕ) → length (frame_of format fctr packet) ≡ length packet + 5
unfolding frame_of sealed
frame_of-length format fctr packet = simp (length-append) (omega arith)

-- FCS stored behind the first `covered` bytes
pub seal_written : (format : Format) (frame fcs : List ℕ) (covered sum : ℕ) → covered + 2 ≤ length frame → sum ≡ checksum_of (take covered frame)
    → fcs ≡ fcs_bytes format sum
    → Written (sealed format (take covered frame)) frame (set (set frame covered (get_or fcs 0 0)) (covered + 1) (get_or fcs 1 0)) (covered + 2)
unfolding sealed
seal_written format frame fcs covered sum h es ef =
    record {
      told = sym (sealed-length format (take covered frame) ∙ ap (λ (n : ℕ). n + 2) (length-take-le covered frame (omega arith)));
      bytes =
          rw (ef, es, add-one)
          (put_sets frame (fcs_bytes format (checksum_of (take covered frame))) covered h
          ∙ put_front frame (fcs_bytes format (checksum_of (take covered frame))) covered (omega arith));
    }

-- a frame sealed where its body was put is the frame put
pub sealed_written : (format : Format) (before body middle after : List ℕ) (sent covered : ℕ) → covered ≡ length body → covered + 2 ≤ length before
    → middle ≡ put before 0 body
    → Written (sealed format (take covered middle)) middle after sent → Written (sealed format body) before after sent
sealed_written format before body middle after sent covered e h em w =
    let own : take covered middle ≡ body = rw em (put-take before body 0 covered (omega arith) (omega arith)) in
    record {
      told = w.told ∙ ap (λ (x : List ℕ). length (sealed format x)) own;
      bytes =
          w.bytes
          ∙ rw (own, em) (put_over before body (sealed format body) (omega arith) (omega (arith, sealed-length format body)));
    }

-- a packet put behind FCTR and LEN
pub body_put : (before headed bodied packet : List ℕ) (fctr : ℕ) → length packet + 3 ≤ length before
    → headed ≡ put before 0 (fctr ∷ len_bytes (length packet)) → bodied ≡ put headed 3 packet
    → bodied ≡ put before 0 (fctr ∷ (len_bytes (length packet) ++ packet))
body_put before headed bodied packet fctr h eh eb = rw (eb, eh) (put-put before (fctr ∷ len_bytes (length packet)) packet 0 3 refl (omega arith))
