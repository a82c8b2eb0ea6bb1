-- The pieces that append cuts its data into: joined they are the data, and each is as long as a block may be.
use Prim.Native.Nat.{ℕ, zero, suc, ◌≤◌, ◌<◌}
use Rattle.std.proofs.Math.Path.{◌≡◌, refl, ap}
use Rattle.std.proofs.Common.{◌∙◌}
use Rattle.std.specs.Prelude.{◌≢◌, drop}
use Rattle.std.proofs.Math.Logic.{⊎_elim}
use mathlib.Core.List.Memᴰ
use mathlib.Core.List.{List, [], ◌∷◌, ◌++◌, Memᴰ}
use native.Mathlib.Omega.{arith}
use Rattle.std.proofs.Math.ListN.{length, take, length-take, length-drop, take-append-drop}
use Rattle.format.specs.Bytes.{Bytes}
use Rattle.format.specs.Record.{longest_data}
use Rattle.format.specs.BlockSize.{greatest_block}
use Rattle.format_laws.specs.BlockSize.{TwoGreatest, two_greatest}
use Rattle.format_laws.specs.Crc.{Octets}
use Rattle.format_laws.specs.Octets.{octets_take, octets_drop}
use Rattle.volume_laws.specs.Tests.{or_is_false, eqb_false}
use Rattle.calls.specs.Areas.{file_areas, shortest_area}
use Rattle.calls.specs.Mount.{wrong_areas}
use Rattle.calls.specs.Append.{shortest_length, cut_into, pieces_of}
use Rattle.image_laws.specs.Stores.{joined_bytes}
use Rattle.calls.specs.declared.Descriptor.{Descriptor}
use Rattle.calls_laws.specs.Checks.{Passes}
use Rattle.demand2.proofs.Store.{file_listed}
use Rattle.demand2.proofs.Places.{area_lengths}
use Rattle.demand2.specs.Cut.{GoodPiece, Sized, no_piece, last_piece, full_piece}

module _ (n : ℕ) (some_room : 1 ≤ n) where
  cut_joined : (k : ℕ) (text : Bytes) → length text ≤ k → joined_bytes (cut_into k n text) ≡ text
  unfolding cut_into joined_bytes
  cut_joined zero [] h = refl
  cut_joined zero (b ∷ l) h = absurd (omega arith)
  cut_joined (suc k) [] h = refl
  cut_joined (suc k) (b ∷ l) h =
      ap (λ (x : Bytes). take n (b ∷ l) ++ x) (cut_joined k (drop n (b ∷ l)) (omega (arith, length-drop n (b ∷ l))))
      ∙ take-append-drop n (b ∷ l)

  cut_sized : (k : ℕ) (text : Bytes) → Sized n (cut_into k n text)
  unfolding cut_into
  cut_sized zero text = no_piece
  cut_sized (suc k) [] = no_piece
  cut_sized (suc k) (b ∷ l) = go (cut_into k n (drop n (b ∷ l))) refl (cut_sized k (drop n (b ∷ l)))
    where
      some_left : (k : ℕ) (text q : Bytes) (ps : List Bytes) → cut_into k n text ≡ q ∷ ps → 0 < length text
      some_left zero text q ps e = let z : ◌≡◌ {A = ℕ} 0 1 = cc in absurd (omega arith)
      some_left (suc k) [] q ps e = let z : ◌≡◌ {A = ℕ} 0 1 = cc in absurd (omega arith)
      some_left (suc k) (b ∷ l) q ps e = omega arith

      go : (ps : List Bytes) → cut_into k n (drop n (b ∷ l)) ≡ ps → Sized n ps → Sized n (take n (b ∷ l) ∷ ps)
      go [] e s = last_piece {p = take n (b ∷ l)} (omega (arith, length-take n (b ∷ l))) (omega (arith, length-take n (b ∷ l)))
      go (q ∷ ps) e s = full_piece {p = take n (b ∷ l)}
          (omega (arith, length-take n (b ∷ l), length-drop n (b ∷ l), some_left k (drop n (b ∷ l)) q ps e)) s

  cut_pieces : n ≤ longest_data → (k : ℕ) (text : Bytes) → Octets text → (p : Bytes) → Memᴰ p (cut_into k n text) → GoodPiece p
  unfolding cut_into
  cut_pieces most zero text o p m = absurd (Memᴰ.not-nil m)
  cut_pieces most (suc k) [] o p m = absurd (Memᴰ.not-nil m)
  cut_pieces most (suc k) (b ∷ l) o p m =
      ⊎_elim here (λ m. cut_pieces most k (drop n (b ∷ l)) (octets_drop n (b ∷ l) o) p m) (Memᴰ.cases_cons m)
    where
      here : p ≡ take n (b ∷ l) → GoodPiece p
      here e = rw e (record {
        some_bytes = omega (arith, length-take n (b ∷ l));
        fits = omega (arith, length-take n (b ∷ l));
        octets = octets_take n (b ∷ l) o;
      })

shortest_least : (fs : List Descriptor) → length fs ≢ 0 → ((d : Descriptor) → Memᴰ d fs → shortest_area ≤ d.length)
    → shortest_area ≤ shortest_length fs
unfolding shortest_length
shortest_least [] n h = absurd (n refl)
shortest_least (d ∷ []) n h = h d (Memᴰ.head refl)
shortest_least (d ∷ e ∷ fs) n h =
    let i = shortest_least (e ∷ fs) (λ z. omega arith) (λ x m. h x (Memᴰ.tail m)) in
    omega (arith, h d (Memᴰ.head refl))

-- the law of the greatest block, in these file areas
module _ (image : Bytes) (ds : List Descriptor) (p : Passes image ds) where
  size_law : TwoGreatest (shortest_length (file_areas image ds))
  unfolding wrong_areas
  size_law =
      let n = (or_is_false _ _ p.areas).0 in
      two_greatest (shortest_length (file_areas image ds)) (shortest_least (file_areas image ds) (eqb_false _ 0 n)
      (λ d m. (area_lengths image ds p.described d (file_listed image ds d m)).0))

  pub pieces_joined : (text : Bytes) → joined_bytes (pieces_of (file_areas image ds) text) ≡ text
  unfolding pieces_of
  pieces_joined text = cut_joined (greatest_block (shortest_length (file_areas image ds))) size_law.some_bytes (length text) text (omega arith)

  pub pieces_sized : (text : Bytes) → Sized (greatest_block (shortest_length (file_areas image ds))) (pieces_of (file_areas image ds) text)
  unfolding pieces_of
  pieces_sized text = cut_sized (greatest_block (shortest_length (file_areas image ds))) size_law.some_bytes (length text) text

  pub pieces_good : (text : Bytes) → Octets text → (q : Bytes) → Memᴰ q (pieces_of (file_areas image ds) text) → GoodPiece q
  unfolding pieces_of
  pieces_good text = cut_pieces (greatest_block (shortest_length (file_areas image ds))) size_law.some_bytes size_law.at_most (length text) text
