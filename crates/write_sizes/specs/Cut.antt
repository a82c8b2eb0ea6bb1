-- The pieces of data, cut one after the other. Document 01, "Create, append, unlink": "pieces of the greatest block size, the last one shorter".
use Prim.Native.Nat.{ℕ, zero, suc, min, ◌+◌, ◌-◌, ◌*◌, ◌/◌, ◌≤◌, ◌<◌}
use Rattle.std.specs.Prelude.{◌≡◌, Bool, drop, get_or}
use Rattle.std.specs.List.{fold, reduce}
use Rattle.std.specs.Option.{unwrap_or}
use Rattle.std.proofs.Math.Path.{refl, sym, ap}
use Rattle.std.proofs.Common.{ap₂, ◌∙◌, arith, length-append, mul-le-mul_right, mul-le-mul_left, add-mul, mul_comm, drop_of_length-le, take_all}
use Rattle.std.proofs.Math.Bool.{true, false}
use mathlib.Core.List.{List, [], ◌∷◌, ◌++◌, append-nil}
use Rattle.std.proofs.Math.Seq.{take-append_seam, drop-append_seam}
use Rattle.std.proofs.Math.Nat.{div-eq_of_lt, div-eq-sub-div}
use Rattle.std.proofs.Math.ListN.{length, take, length-drop}
use Rattle.std.proofs.Math.Dec.{leb}
use Rattle.std.specs.Float.Ieee.Nearest.{div_mono}
use borrow.Author.Tests.{leb-true, leb-false}
use Rattle.format.specs.Bytes.{Bytes}
use Rattle.format.specs.Record.{longest_data}
use Rattle.format.specs.BlockSize.{greatest_block}
use Rattle.format_laws.specs.BlockSize.{two_greatest}
use Rattle.calls.specs.Areas.{shortest_area}
use Rattle.calls.specs.Append.{most_appended, cut_into, shortest_length}
use Rattle.area_list.specs.Described.{described}

-- data cut into pieces of n bytes
abbrev pub pieces : ℕ → Bytes → List Bytes
pieces n text = cut_into (length text) n text

module _ (n : ℕ) (some_room : 1 ≤ n) where
  -- the count of pieces that bounds the cutting is enough, so any greater one cuts alike
  cut_enough : (k m : ℕ) (text : Bytes) → length text ≤ k → length text ≤ m → cut_into k n text ≡ cut_into m n text
  unfolding cut_into
  cut_enough zero zero text h g = refl
  cut_enough zero (suc m) [] h g = refl
  cut_enough zero (suc m) (b ∷ l) h g = absurd (omega arith)
  cut_enough (suc k) zero [] h g = refl
  cut_enough (suc k) zero (b ∷ l) h g = absurd (omega arith)
  cut_enough (suc k) (suc m) [] h g = refl
  cut_enough (suc k) (suc m) (b ∷ l) h g =
      ap (λ (x : List Bytes). take n (b ∷ l) ∷ x)
      (cut_enough k m (drop n (b ∷ l)) (omega (arith, length-drop n (b ∷ l))) (omega (arith, length-drop n (b ∷ l))))

  pieces_some : (text : Bytes) → 0 < length text → pieces n text ≡ take n text ∷ pieces n (drop n text)
  unfolding cut_into
  pieces_some [] h = absurd (omega arith)
  pieces_some (b ∷ l) h =
      ap (λ (x : List Bytes). take n (b ∷ l) ∷ x)
      (cut_enough (length l) (length (drop n (b ∷ l))) (drop n (b ∷ l)) (omega (arith, length-drop n (b ∷ l))) (omega arith))

  -- how many pieces there are
  cut_count : (k : ℕ) (text : Bytes) → length text ≤ k → length (cut_into k n text) ≡ (length text + (n - 1)) / n
  unfolding cut_into
  cut_count zero [] h = sym (div-eq_of_lt {n = 0 + (n - 1)} {m = n} (omega arith))
  cut_count zero (b ∷ l) h = absurd (omega arith)
  cut_count (suc k) [] h = sym (div-eq_of_lt {n = 0 + (n - 1)} {m = n} (omega arith))
  cut_count (suc k) (b ∷ l) h =
      let t = suc (length l) in
      let e = div-eq-sub-div {m = n} {n = t + (n - 1)} some_room (omega arith) in
      let i = cut_count k (drop n (b ∷ l)) (omega (arith, length-drop n (b ∷ l))) in
      go (leb n t) refl e i
    where
      go : (b' : Bool) → leb n (suc (length l)) ≡ b'
          → (suc (length l) + (n - 1)) / n ≡ ((suc (length l) + (n - 1)) - n) / n + 1
          → length (cut_into k n (drop n (b ∷ l))) ≡ (length (drop n (b ∷ l)) + (n - 1)) / n
          → suc (length (cut_into k n (drop n (b ∷ l)))) ≡ (suc (length l) + (n - 1)) / n
      go true q e i =
          let h = leb-true n (suc (length l)) q in
          let d : length (drop n (b ∷ l)) + (n - 1) ≡ (suc (length l) + (n - 1)) - n = omega (arith, length-drop n (b ∷ l)) in
          omega (arith, i, e, ap (λ (x : ℕ). x / n) d)
      go false q e i =
          let h = leb-false n (suc (length l)) q in
          let a = div-eq_of_lt {n = (suc (length l) + (n - 1)) - n} {m = n} (omega arith) in
          let c = div-eq_of_lt {n = length (drop n (b ∷ l)) + (n - 1)} {m = n} (omega (arith, length-drop n (b ∷ l))) in
          omega (arith, i, e, a, c)

  pub pieces_count : (text : Bytes) → length (pieces n text) ≡ (length text + (n - 1)) / n
  pieces_count text = cut_count (length text) text (omega arith)

  -- a piece comes off the front of what is left, and is short only where less is left
  pub record Comes (rest piece later : Bytes) : Type 0 where
    pub parts : rest ≡ piece ++ later
    pub long : length piece ≡ min n (length rest)
    pub some : 0 < length rest

  pub chunk_comes : {rest piece later : Bytes} {k : ℕ} → k ≡ n → (rest ≡ piece ++ later) × (length piece ≡ min k (length rest)) × (0 < length rest) → Comes rest piece later
  chunk_comes e c = record { parts = c.0; long = rw e at c.1; some = c.2 }

  front_piece : (piece later : Bytes) → length piece ≡ min n (length (piece ++ later)) → 0 < length (piece ++ later)
      → pieces n (piece ++ later) ≡ piece ∷ pieces n later
  front_piece piece [] e h =
      let l = length-append piece [] in
      pieces_some (piece ++ []) h
      ∙ ap₂ (λ (p : Bytes) (r : Bytes). p ∷ pieces n r) (take_all n (piece ++ []) (omega (arith, l, e)) ∙ append-nil piece) (drop_of_length-le (piece ++ []) {i = n} (omega (arith, l, e)))
  front_piece piece (b ∷ later) e h =
      let whole : n ≡ length piece = omega (arith, length-append piece (b ∷ later), e) in
      pieces_some (piece ++ (b ∷ later)) h
      ∙ ap₂ (λ (p : Bytes) (r : Bytes). p ∷ pieces n r)
      (ap (λ (k : ℕ). take k (piece ++ (b ∷ later))) whole ∙ take-append_seam piece (b ∷ later))
      (ap (λ (k : ℕ). drop k (piece ++ (b ∷ later))) whole ∙ drop-append_seam piece (b ∷ later))

  pub pieces_next : {rest piece later : Bytes} → Comes rest piece later → pieces n rest ≡ piece ∷ pieces n later
  pieces_next {rest} {piece} {later} c =
      let long = rw c.parts at c.long in
      let some = rw c.parts at c.some in
      rw c.parts (front_piece piece later long some)

-- fewer bytes in greater pieces are no more pieces
fewer : (n m s t : ℕ) → n ≤ m → 1 ≤ t → t ≤ s → (n + (s - 1)) / s ≤ (m + (t - 1)) / t
fewer zero m s t h p l = omega (arith, div-eq_of_lt {n = 0 + (s - 1)} {m = s} (omega arith))
fewer (suc n) m s t h p l = div_mono (suc n + (s - 1)) s (m + (t - 1)) t (omega arith) (omega arith) products
  where
    products : (suc n + (s - 1)) * t ≤ (m + (t - 1)) * s
    products =
        let a : suc n + (s - 1) ≡ n + s = omega arith in
        let b : m + (t - 1) ≡ (m - 1) + t = omega arith in
        let c : n * t ≤ (m - 1) * t = mul-le-mul_right t (omega arith) in
        let d : (m - 1) * t ≤ (m - 1) * s = mul-le-mul_left (m - 1) l in
        rw (a, b, add-mul n s t, add-mul (m - 1) t s, mul_comm s t) (omega (arith, c, d))

-- no greatest block size is less
abbrev pub least_block : ℕ
least_block = 28

pub least_block_lem : (shortest : ℕ) → shortest_area ≤ shortest → least_block ≤ greatest_block shortest
least_block_lem shortest h = go (leb longest_data (greatest_block shortest)) refl
  where
    go : (b : Bool) → leb longest_data (greatest_block shortest) ≡ b → least_block ≤ greatest_block shortest
    go true e = omega (arith, leb-true longest_data (greatest_block shortest) e)
    go false e = omega (arith, (two_greatest shortest h).no_more (leb-false longest_data (greatest_block shortest) e))

-- the most pieces of one append
abbrev pub most_pieces : ℕ
most_pieces = (most_appended + (least_block - 1)) / least_block

pub few_pieces : (shortest : ℕ) (text : Bytes) → shortest_area ≤ shortest → length text ≤ most_appended → length (pieces (greatest_block shortest) text) ≤ most_pieces
few_pieces shortest text h l =
    rw (pieces_count (greatest_block shortest) (two_greatest shortest h).some_bytes text)
    (fewer (length text) most_appended (greatest_block shortest) least_block l (omega arith) (least_block_lem shortest h))

-- past the data there is no piece
pub pieces_none : (n : ℕ) (text : Bytes) → length text ≤ 0 → pieces n text ≡ []
unfolding cut_into
pieces_none n [] h = refl
pieces_none n (b ∷ l) h = absurd (omega arith)

-- ---- the shortest of the areas

unfoldable pub shortest_of : List ℕ → ℕ
shortest_of [] = 0
shortest_of (n ∷ []) = n
shortest_of (n ∷ m ∷ l) = min n (shortest_of (m ∷ l))

pub shortest_described : (starts spans : List ℕ) → length spans ≡ length starts → shortest_of spans ≡ shortest_length (described starts spans)
unfolding shortest_of shortest_length described
shortest_described [] [] e = refl
shortest_described [] (n ∷ spans) e = absurd (omega arith)
shortest_described (o ∷ starts) [] e = absurd (omega arith)
shortest_described (o ∷ []) (n ∷ []) e = refl
shortest_described (o ∷ []) (n ∷ m ∷ spans) e = absurd (omega arith)
shortest_described (o ∷ p ∷ starts) (n ∷ []) e = absurd (omega arith)
shortest_described (o ∷ p ∷ starts) (n ∷ m ∷ spans) e = ap (min n) (shortest_described (p ∷ starts) (m ∷ spans) (omega arith))

shortest_folded : (a : ℕ) (l : List ℕ) → fold min a l ≡ shortest_of (a ∷ l)
unfolding shortest_of
shortest_folded a [] = refl
shortest_folded a (b ∷ []) = refl
shortest_folded a (b ∷ c ∷ l) = shortest_folded (min a b) (c ∷ l) ∙ omega arith

-- the least of the numbers, or 0 where there is none
pub shortest_reduced : (spans : List ℕ) → unwrap_or (reduce min spans) 0 ≡ shortest_of spans
unfolding shortest_of
shortest_reduced [] = refl
shortest_reduced (n ∷ spans) = shortest_folded n spans

-- every area is so long, so the shortest is
pub shortest_long : (m : ℕ) (spans : List ℕ) → 0 < length spans → ((i : ℕ) → i < length spans → m ≤ get_or spans i 0) → m ≤ shortest_of spans
unfolding shortest_of
shortest_long m [] h g = absurd (omega arith)
shortest_long m (n ∷ []) h g = g 0 (omega arith)
shortest_long m (n ∷ k ∷ spans) h g =
    let a : m ≤ n = g 0 (omega arith) in
    let b = shortest_long m (k ∷ spans) (omega arith) (λ i l. g (suc i) (omega arith)) in
    omega arith
