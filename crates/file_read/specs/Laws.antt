-- Buffers that are filled with a file's bytes, and the headers that are followed for them.
use Prim.Native.Nat.{ℕ, suc, min, ◌+◌, ◌-◌, ◌≤◌, ◌<◌}
use Rattle.std.specs.Prelude.{◌≡◌, Bool, take}
use Rattle.std.proofs.Math.Path.{refl, ap}
use Rattle.std.proofs.Common.{sym, ◌∙◌, length-take}
use Rattle.std.proofs.Math.Bool.{true, false, cond}
use mathlib.Core.List.{List, [], ◌∷◌, ◌++◌}
use native.Mathlib.Omega.{arith}
use Rattle.std.proofs.Math.ListN.{length, drop, length-append, length-drop, get_or-append}
use Rattle.std.proofs.Math.Seq.{get_or-take, get_or-drop, get_or-append-add}
use Rattle.std.proofs.Math.Dec.{ltb}
use borrow.Author.Tests.{lt-ltb, le-ltb, ltb-true, ltb-false}
use Rattle.format.specs.Bytes.{Bytes, byte_at}
use Rattle.volume.specs.View.{View}
use Rattle.volume.specs.Contents.{text_of, headers_from}
use Rattle.calls.specs.Image.{put}
use Rattle.image_laws.specs.Laws.{length_put, byte_within, byte_outside}
use Rattle.file_read.specs.Reading.{filled, laid}

-- ---- a filled buffer

module _ (text : Bytes) (from : ℕ) (b : Bytes) where
  given_long : length (take (length b) (drop from text)) ≡ min (length b) (length text - from)
  given_long = length-take (length b) (drop from text) ∙ ap (min (length b)) (length-drop from text)

  pub filled_long : length (filled text from b) ≡ length b
  unfolding filled
  filled_long =
      omega (
        arith,
        given_long,
        length-append (take (length b) (drop from text)) (drop (length (take (length b) (drop from text))) b),
        length-drop (length (take (length b) (drop from text))) b,
      )

  -- bytes of the text, as far as it goes, and then those of the buffer
  pub filled_in : (k : ℕ) → k < length b → from + k < length text → byte_at (filled text from b) k ≡ byte_at text (from + k)
  unfolding filled
  filled_in k h g =
      get_or-append (take (length b) (drop from text)) (drop (length (take (length b) (drop from text))) b) 0 k (omega (arith, given_long))
      ∙ get_or-take (length b) (drop from text) k 0 h
      ∙ get_or-drop from text k 0

  pub filled_out : (k : ℕ) → k < length b → length text ≤ from + k → byte_at (filled text from b) k ≡ byte_at b k
  unfolding filled
  filled_out k h g =
      let n = length (take (length b) (drop from text)) in
      let z : n + (k - n) ≡ k = omega (arith, given_long) in
      ap (λ (j : ℕ). byte_at (take (length b) (drop from text) ++ drop n b) j) (sym z)
      ∙ get_or-append-add (take (length b) (drop from text)) (drop n b) (k - n) 0
      ∙ get_or-drop n b (k - n) 0
      ∙ ap (byte_at b) z

-- ---- data laid into a buffer

within : (to room n l : ℕ) → l ≡ min n (room - to) → to ≤ room → to + l ≤ room
within to room n l e h = omega arith

below_both : (a m n : ℕ) → a < m → a < n → a < min m n
below_both a m n h g = omega arith

module _ (text : Bytes) (begin from : ℕ) (b : Bytes) (reaches : from ≤ begin + length text) where
  -- what is put: the data from where it is wanted, as far as there is room
  abbrev part : Bytes
  part = take (min (length text - (from - begin)) (length b - (begin - from))) (drop (from - begin) text)

  part_long : length part ≡ min (length text - (from - begin)) (length b - (begin - from))
  part_long =
      omega (arith, length-take (min (length text - (from - begin)) (length b - (begin - from))) (drop (from - begin) text), length-drop (from - begin) text)

  part_fits : begin - from < length b → begin - from + length part ≤ length b
  part_fits h = within (begin - from) (length b) (length text - (from - begin)) (length part) part_long (omega arith)

  pub laid_put : begin - from < length b → laid text begin from b ≡ put b (begin - from) part
  unfolding laid
  laid_put h = rw (lt-ltb (begin - from) (length b) h)

  pub laid_none : length b ≤ begin - from → laid text begin from b ≡ b
  unfolding laid
  laid_none h = rw (le-ltb (begin - from) (length b) h)

  pub laid_long : length (laid text begin from b) ≡ length b
  laid_long = go (ltb (begin - from) (length b)) refl
    where
      go : (t : Bool) → ltb (begin - from) (length b) ≡ t → length (laid text begin from b) ≡ length b
      go true e =
          let h = ltb-true (begin - from) (length b) e in
          ap length (laid_put h) ∙ length_put b (begin - from) part (part_fits h)
      go false e = ap length (laid_none (ltb-false (begin - from) (length b) e))

  -- the data's bytes, and behind them those of the buffer
  pub laid_in : (k : ℕ) → k < length b → begin ≤ from + k → from + k < begin + length text
      → byte_at (laid text begin from b) k ≡ byte_at text (from + k - begin)
  laid_in k h g s =
      let t : begin - from < length b = omega arith in
      let z : begin - from + (k - (begin - from)) ≡ k = omega arith in
      let y : from - begin + (k - (begin - from)) ≡ from + k - begin = omega arith in
      let m = below_both (k - (begin - from)) (length text - (from - begin)) (length b - (begin - from)) (omega arith) (omega arith) in
      ap (λ (x : Bytes). byte_at x k) (laid_put t)
      ∙ ap (byte_at (put b (begin - from) part)) (sym z)
      ∙ byte_within b (begin - from) part (part_fits t) (k - (begin - from)) (rw part_long m)
      ∙ get_or-take (min (length text - (from - begin)) (length b - (begin - from))) (drop (from - begin) text) (k - (begin - from)) 0 m
      ∙ get_or-drop (from - begin) text (k - (begin - from)) 0
      ∙ ap (byte_at text) y

  pub laid_out : (k : ℕ) → k < length b → begin + length text ≤ from + k → byte_at (laid text begin from b) k ≡ byte_at b k
  laid_out k h g =
      let t : begin - from < length b = omega arith in
      ap (λ (x : Bytes). byte_at x k) (laid_put t)
      ∙ byte_outside b (begin - from) part (part_fits t) k (λ j l e. omega (arith, part_long))

-- as `lay` puts it
pub laid_is : (text : Bytes) (begin from : ℕ) (b : Bytes) (to skip n : ℕ) (b' : Bytes) → to ≡ begin - from → to < length b → skip ≡ from - begin
    → n ≡ min (length text - skip) (length b - to) → b' ≡ put b to (take (skip + n - skip) (drop skip text)) → b' ≡ laid text begin from b
unfolding laid
laid_is text begin from b to skip n b' et h es en e =
    let z : skip + n - skip ≡ n = omega arith in
    e ∙ rw (← et, lt-ltb to (length b) h, ← es, z, ← en)

-- ---- headers

module _ {A : Type 0} (F : View A) where
  -- one block more is followed, as long as the first byte is not behind it
  pub headers_snoc : (from : ℕ) (xs : List A) (b : A) → from < length (text_of F (xs ++ (b ∷ [])))
      → headers_from F from (xs ++ (b ∷ [])) ≡ suc (headers_from F from xs)
  unfolding headers_from text_of
  headers_snoc from [] b h =
      rw (lt-ltb from (length (F.text b)) (omega (arith, length-append (F.text b) [])))
  headers_snoc from (a ∷ xs) b h =
      go (ltb from (length (F.text a))) refl (headers_snoc (from - length (F.text a)) xs b)
    where
      go : (t : Bool) → ltb from (length (F.text a)) ≡ t
          → (from - length (F.text a) < length (text_of F (xs ++ (b ∷ [])))
          → headers_from F (from - length (F.text a)) (xs ++ (b ∷ [])) ≡ suc (headers_from F (from - length (F.text a)) xs))
          → cond t (suc (length (xs ++ (b ∷ [])))) (headers_from F (from - length (F.text a)) (xs ++ (b ∷ [])))
          ≡ suc (cond t (suc (length xs)) (headers_from F (from - length (F.text a)) xs))
      go true e ih = omega (arith, length-append xs (b ∷ []))
      go false e ih =
          ih (omega (arith, ltb-false from (length (F.text a)) e, length-append (F.text a) (text_of F (xs ++ (b ∷ [])))))

  -- none holds a byte behind the end
  pub headers_past : (from : ℕ) (xs : List A) → length (text_of F xs) ≤ from → headers_from F from xs ≡ 0
  unfolding headers_from text_of
  headers_past from [] h = refl
  headers_past from (a ∷ xs) h =
      let l = length-append (F.text a) (text_of F xs) in
      rw (le-ltb from (length (F.text a)) (omega arith)) (headers_past (from - length (F.text a)) xs (omega arith))
