-- Chunks of blocks are the chunks of an answer.
use Rattle.std.proofs.Common.{◌≡◌, ℕ, zero, suc, ◌<◌, ◌≤◌, Bool, true, false, nat_le, ◌&&◌, if◌then◌else◌, List, [], ◌∷◌, ◌++◌, length, map, take, drop, min, flat_map, refl, sym, ap, ap₂, ◌∙◌, arith, append_assoc, length-take, length-drop, ◌⊎◌, inl, inr, lit<}
use Rattle.std.specs.Prelude.{sum}
use Rattle.std.proofs.lemmas.List.{take_min, drop_min}
use Rattle.std.proofs.lemmas.Bool.Decides.{leb_tells}
use Rattle.httparse.specs.Ascii.{crlf_bytes}
use Rattle.tow_model.specs.declared.limits.TheConstants.{BLOCK_LEN}
use Rattle.tow_wire.specs.Answers.{cut, blocks, chunk_text, last_chunk}
use Rattle.tow_sink.specs.ChunkedFeeding.{chunks, size_line}
use Rattle.tow_sink.specs.Whole.{FramesWhole}
use Rattle.tow_sink.proofs.BlockFeeds.{blocks_sum}

within : (a b : ℕ) → a ≤ b → nat_le a b ≡ true
within a b le = by (leb_tells a b)
  where
    by : ((nat_le a b ≡ true) × (a ≤ b)) ⊎ ((nat_le a b ≡ false) × (b < a)) → nat_le a b ≡ true
    by (inl (is, _)) = is
    by (inr (_, gt)) = absurd (omega (arith, le, gt))

joined : (s c p f : List ℕ) → s ++ ((p ++ c) ++ f) ≡ ((s ++ p) ++ c) ++ f
joined s c p f = sym (append_assoc s (p ++ c) f) ∙ ap (λ (l : List ℕ). l ++ f) (sym (append_assoc s p c))

lengths : List (List ℕ) → List ℕ
lengths bs = map (λ (b : List ℕ). length b) bs

chunks_of : (size n : ℕ) (bytes : List ℕ) → 0 < size → length bytes ≤ n → chunks (map (λ (b : List ℕ). length b) (cut size n bytes)) bytes ≡ flat_map chunk_text (cut size n bytes)
chunks_of size zero [] some fits = refl
chunks_of size (suc n) [] some fits = refl
chunks_of size zero (x ∷ bytes) some fits = absurd (omega (arith, fits))
chunks_of size (suc n) (x ∷ bytes) some fits = step (x ∷ bytes) (cut size n (drop size (x ∷ bytes)))
    (chunks_of size n (drop size (x ∷ bytes)) some (omega (arith, length-drop size (x ∷ bytes), some, fits)))
  where
    step : (w : List ℕ) (ps : List (List ℕ)) → chunks (map (λ (b : List ℕ). length b) ps) (drop size w) ≡ flat_map chunk_text ps
        → chunks (length (take size w) ∷ map (λ (b : List ℕ). length b) ps) w ≡ chunk_text (take size w) ++ flat_map chunk_text ps
    step w ps later =
        let p = take size w in
        let ls = map (λ (b : List ℕ). length b) ps in
        let n : length p ≡ min size (length w) = length-take size w in
        let here : nat_le (length p) (length w) ≡ true = within (length p) (length w) (omega (arith, n)) in
        let front : take (length p) w ≡ p = ap (λ (k : ℕ). take k w) n ∙ take_min size w in
        let rest : drop (length p) w ≡ drop size w = ap (λ (k : ℕ). drop k w) n ∙ drop_min size w in
        ap (λ (t : Bool). size_line (length p) ++ (if t then take (length p) w ++ crlf_bytes ++ chunks ls (drop (length p) w) else w)) here
        ∙ ap₂ (λ (a b : List ℕ). size_line (length p) ++ (a ++ crlf_bytes ++ chunks ls b)) front rest
        ∙ ap (λ (l : List ℕ). size_line (length p) ++ (p ++ crlf_bytes ++ l)) later
        ∙ joined (size_line (length p)) crlf_bytes p (flat_map chunk_text ps)

pub frames_whole : FramesWhole
frames_whole = record {
  whole = λ feed. ap (λ (l : List ℕ). l ++ last_chunk) (chunks_of BLOCK_LEN (length feed.bytes) feed.bytes (lit< tt) (omega arith));
  may_end = λ feed.
      let s = blocks_sum feed.bytes in
      ap (λ (t : Bool). t && true) (within (sum (map (λ (b : List ℕ). length b) (blocks feed.bytes))) (length feed.bytes) (omega (arith, s)));
}
