-- Ids marked in a window, and the smallest that is not.
use Prim.Native.Nat.{ℕ, suc, ◌+◌, ◌-◌, ◌*◌, ◌≤◌, ◌<◌}
use Rattle.std.specs.Prelude.{◌≡◌, ◌≢◌, Bool, not, ◌&&◌, ◌||◌, length, set, replicate, take, eqb}
use Rattle.std.proofs.Math.Path.{refl, sym, subst⁻¹}
use Rattle.std.proofs.Common.{◌∙◌, length-append, add-one, take_all, get_or-set_other}
use Rattle.std.proofs.Math.Bool.{true, false, cond}
use mathlib.Core.List.{List, [], ◌∷◌, ◌++◌, map, Memᴰ}
use native.Mathlib.Omega.{arith}
use Rattle.std.proofs.Math.Decide.{ℕ_discrete}
use Rattle.std.proofs.Math.ListN.{get_or}
use Rattle.std.proofs.lemmas.List.{length-map, length-replicate, get_or-replicate}
use Rattle.std.proofs.Math.Seq.{get_or-set_same, take-suc}
use Rattle.std.proofs.Math.Dec.{T}
use borrow.Author.Tests.{eq-eqb, ne_eqb}
use Rattle.format.specs.Bytes.{Bytes}
use Rattle.format.specs.Record.{record_id, record_link, block_previous}
use Rattle.volume.specs.Lists.{keep, all}
use Rattle.volume.specs.Counting.{volume_of}
use Rattle.volume_laws.specs.Tests.{true→T, T→true, not_T→false}
use Rattle.calls.specs.Storing.{named_by_inodes, named_by_blocks, named_ids, is_among, unused_id}
use Rattle.calls_laws.specs.Unused.{among, not_among, Smallest, unused_smallest, inodes_name, blocks_name}
use Rattle.record_places.specs.Place.{block_at, bytes_at, by_place}
use Rattle.record_places.specs.Laws.{place_views}
use Rattle.table_words.specs.Occupancy.{bits, capacity, first_zero}
use Rattle.table_words.specs.Laws.{position_only, length_bits, fresh_bits}
use Rattle.write_ids.specs.Window.{Marks, named_at, with_names, names_of}

-- ---- whether a number is among others

pub among_none : (i : ℕ) → is_among i [] ≡ false
unfolding is_among all
among_none i = refl

among_cons : (i j : ℕ) (l : List ℕ) → is_among i (j ∷ l) ≡ (eqb i j || is_among i l)
unfolding is_among all
among_cons i j l = go (eqb i j)
  where
    go : (b : Bool) → not (not b && all (λ k. not (eqb i k)) l) ≡ (b || not (all (λ k. not (eqb i k)) l))
    go true = refl
    go false = refl

among_append : (i : ℕ) (l m : List ℕ) → is_among i (l ++ m) ≡ (is_among i l || is_among i m)
among_append i [] m = rw (among_none i)
among_append i (j ∷ l) m = rw (among_cons i j (l ++ m), among_cons i j l, among_append i l m) (go (eqb i j))
  where
    go : (b : Bool) → (b || (is_among i l || is_among i m)) ≡ ((b || is_among i l) || is_among i m)
    go true = refl
    go false = refl

-- ---- one id more

module _ (first : ℕ) (names words : List ℕ) (marks : Marks first names words) (i : ℕ) where
  -- its place taken
  pub marks_taken : (words' : List ℕ) (k : ℕ) → first + k ≡ i → k < capacity words → length words' ≡ length words
      → bits words' ≡ set (bits words) k 1 → Marks first (i ∷ names) words'
  unfolding Marks
  marks_taken words' k e h long took j g = rw (took, among_cons (first + j) i names) (go (ℕ_discrete j k))
    where
      go : Dec (j ≡ k) → get_or (set (bits words) k 1) j 0 ≡ cond (eqb (first + j) i || is_among (first + j) names) 1 0
      go (yes q) = rw (q, get_or-set_same (bits words) k 1 0 (omega (arith, length_bits words)), eq-eqb (first + k) i e)
      go (no q) =
          let n : first + j ≢ i = λ z. q (omega arith) in
          rw (get_or-set_other (bits words) k j 1 0 q, ne_eqb (first + j) i n) (marks j (omega arith))

  -- outside the window
  marks_outside : ((k : ℕ) → k < capacity words → first + k ≢ i) → Marks first (i ∷ names) words
  unfolding Marks
  marks_outside out k h = rw (among_cons (first + k) i names, ne_eqb (first + k) i (out k h)) (marks k h)

  pub marks_below : i < first → Marks first (i ∷ names) words
  marks_below h = marks_outside (λ k g e. omega arith)

  pub marks_above : first + capacity words ≤ i → Marks first (i ∷ names) words
  marks_above h = marks_outside (λ k g e. omega arith)

-- no place of fresh words is taken
pub marks_fresh : (first n : ℕ) → Marks first [] (replicate n 0)
unfolding Marks
marks_fresh first n k h =
    let l : length {A = ℕ} (replicate n 0) ≡ n = length-replicate n 0 in
    rw (fresh_bits n, among_none (first + k)) (get_or-replicate (n * 64) k 0 0 (rw l at h))

-- ---- the smallest id that is not named

module _ (first : ℕ) (names words : List ℕ) (marks : Marks first names words) (room : length names < capacity words) where
  least : Smallest first names (unused_id first names)
  least = unused_smallest first names

  abbrev at : ℕ
  at = unused_id first names - first

  at_is : first + at ≡ unused_id first names
  at_is = omega (arith, least.from)

  at_within : at < capacity words
  at_within = omega (arith, least.near)

  free : get_or (bits words) at 0 ≡ 0
  unfolding Marks
  free =
      let e : is_among (first + at) names ≡ false = rw at_is (not_T→false (λ t. least.unused (among (unused_id first names) names t))) in
      marks at at_within ∙ rw e

  named : (j : ℕ) → j < at → get_or (bits words) j 0 ≡ 1
  unfolding Marks
  named j h =
      let m = least.smallest (first + j) (omega arith) (omega arith) in
      let e : is_among (first + j) names ≡ true = T→true (go (is_among (first + j) names) refl m) in
      marks j (omega (arith, at_within)) ∙ rw e
    where
      go : (b : Bool) → is_among (first + j) names ≡ b → Memᴰ (first + j) names → T (is_among (first + j) names)
      go true q m = true→T q
      go false q m = absurd (not_among (first + j) names (λ t. rw q at t) m)

  lowest : first_zero (bits words) ≡ at
  lowest = position_only 0 (bits words) at (record {
    within = omega (arith, at_within, length_bits words);
    here = λ h. free;
    before = λ j h z. omega (arith, named j h);
  })

  pub unused_is : unused_id first names ≡ first + first_zero (bits words)
  unused_is = rw lowest (sym at_is)

  pub unused_within : first_zero (bits words) < capacity words
  unused_within = rw lowest at_within

  -- taken, it is named too
  pub unused_taken : (words' : List ℕ) → length words' ≡ length words → bits words' ≡ set (bits words) (first_zero (bits words)) 1
      → Marks first (unused_id first names ∷ names) words'
  unused_taken words' long took = marks_taken first names words marks (unused_id first names) words' (first_zero (bits words)) (sym unused_is) unused_within long took

-- ---- the names of records

or_three : (x y z a b : Bool) → (x || (y || (z || (a || b)))) ≡ (a || (z || (y || (x || b))))
or_three true true z true b = refl
or_three true true true false b = refl
or_three true true false false b = refl
or_three true false true true b = refl
or_three true false true false b = refl
or_three true false false true b = refl
or_three true false false false b = refl
or_three false true true true b = refl
or_three false true true false b = refl
or_three false true false true b = refl
or_three false true false false b = refl
or_three false false true true b = refl
or_three false false true false b = refl
or_three false false false true b = refl
or_three false false false false b = refl

or_two : (y z a b : Bool) → (y || (z || (a || b))) ≡ ((z || (y || a)) || b)
or_two true true a b = refl
or_two true false a b = refl
or_two false true a b = refl
or_two false false true b = refl
or_two false false false b = refl

module _ (image : Bytes) (i : ℕ) where
  abbrev inodes_in : List ℕ → List ℕ
  inodes_in = keep (λ r. not (block_at image r))

  abbrev blocks_in : List ℕ → List ℕ
  blocks_in = keep (block_at image)

  abbrev in_inodes : List ℕ → Bool
  in_inodes ps = is_among i (named_by_inodes (map (bytes_at image) ps))

  abbrev in_blocks : List ℕ → Bool
  in_blocks ps = is_among i (named_by_blocks (map (bytes_at image) ps))

  inode_named : (p : ℕ) (ps : List ℕ) → in_inodes (p ∷ ps) ≡ (eqb i ((by_place image).id p) || (eqb i ((by_place image).parent p) || in_inodes ps))
  unfolding named_by_inodes
  inode_named p ps =
      let v = place_views image in
      among_cons i (record_id (bytes_at image p)) (record_link (bytes_at image p) ∷ named_by_inodes (map (bytes_at image) ps))
      ∙ rw (among_cons i (record_link (bytes_at image p)) (named_by_inodes (map (bytes_at image) ps)), v.id p, v.parent p)

  block_named : (p : ℕ) (ps : List ℕ)
      → in_blocks (p ∷ ps) ≡ (eqb i ((by_place image).id p) || (eqb i ((by_place image).owner p) || (eqb i ((by_place image).previous p) || in_blocks ps)))
  unfolding named_by_blocks
  block_named p ps =
      let v = place_views image in
      among_cons i (record_id (bytes_at image p)) (record_link (bytes_at image p) ∷ block_previous (bytes_at image p) ∷ named_by_blocks (map (bytes_at image) ps))
      ∙ rw (
        among_cons i (record_link (bytes_at image p)) (block_previous (bytes_at image p) ∷ named_by_blocks (map (bytes_at image) ps)),
        among_cons i (block_previous (bytes_at image p)) (named_by_blocks (map (bytes_at image) ps)),
        v.id p,
        v.owner p,
        v.previous p,
      )

  names_parted : (ps : List ℕ) → is_among i (names_of image ps) ≡ (in_inodes (inodes_in ps) || in_blocks (blocks_in ps))
  unfolding names_of keep named_by_inodes named_by_blocks
  names_parted [] = rw (among_none i)
  names_parted (p ∷ ps) = go (block_at image p) (names_parted ps)
    where
      go : (b : Bool) → is_among i (names_of image ps) ≡ (in_inodes (inodes_in ps) || in_blocks (blocks_in ps))
          → is_among i (cond b ((by_place image).previous p ∷ (by_place image).owner p ∷ (by_place image).id p ∷ names_of image ps)
          ((by_place image).parent p ∷ (by_place image).id p ∷ names_of image ps))
          ≡ (in_inodes (cond (not b) (p ∷ inodes_in ps) (inodes_in ps)) || in_blocks (cond b (p ∷ blocks_in ps) (blocks_in ps)))
      go true ih =
          among_cons i ((by_place image).previous p) ((by_place image).owner p ∷ (by_place image).id p ∷ names_of image ps)
          ∙ rw (
            among_cons i ((by_place image).owner p) ((by_place image).id p ∷ names_of image ps),
            among_cons i ((by_place image).id p) (names_of image ps),
            ih,
            block_named p (blocks_in ps),
          ) (or_three (eqb i ((by_place image).previous p)) (eqb i ((by_place image).owner p)) (eqb i ((by_place image).id p)) (in_inodes (inodes_in ps)) (in_blocks (blocks_in ps)))
      go false ih =
          among_cons i ((by_place image).parent p) ((by_place image).id p ∷ names_of image ps)
          ∙ rw (among_cons i ((by_place image).id p) (names_of image ps), ih, inode_named p (inodes_in ps)) (or_two (eqb i ((by_place image).parent p)) (eqb i ((by_place image).id p)) (in_inodes (inodes_in ps)) (in_blocks (blocks_in ps)))

  names_same : (ps : List ℕ) → is_among i (names_of image ps) ≡ is_among i (named_at image ps)
  unfolding named_ids volume_of
  names_same ps =
      names_parted ps
      ∙ sym (among_append i (named_by_inodes (map (bytes_at image) (inodes_in ps))) (named_by_blocks (map (bytes_at image) (blocks_in ps))))

-- only what is named matters, in whatever order
pub marks_named : (image : Bytes) (ps : List ℕ) (first : ℕ) (words : List ℕ) → Marks first (names_of image ps) words → Marks first (named_at image ps) words
unfolding Marks
marks_named image ps first words marks k h = marks k h ∙ rw (names_same image (first + k) ps)

-- ---- the records marked one after the other

or_swap : (a b c : Bool) → (a || (b || c)) ≡ (b || (a || c))
or_swap true true c = refl
or_swap true false c = refl
or_swap false b c = refl

module _ (image : Bytes) (k : ℕ) where
  with_parted : (p : ℕ) (names : List ℕ) → is_among k (with_names image p names) ≡ (is_among k (with_names image p []) || is_among k names)
  with_parted p names = go (block_at image p)
    where
      go : (b : Bool)
          → is_among k (cond b ((by_place image).previous p ∷ (by_place image).owner p ∷ (by_place image).id p ∷ names) ((by_place image).parent p ∷ (by_place image).id p ∷ names))
          ≡ (is_among k (cond b ((by_place image).previous p ∷ (by_place image).owner p ∷ (by_place image).id p ∷ []) ((by_place image).parent p ∷ (by_place image).id p ∷ [])) || is_among k names)
      go true = among_append k ((by_place image).previous p ∷ (by_place image).owner p ∷ (by_place image).id p ∷ []) names
      go false = among_append k ((by_place image).parent p ∷ (by_place image).id p ∷ []) names

  -- the names of one record more
  names_snoc : (ps : List ℕ) (p : ℕ) → is_among k (names_of image (ps ++ (p ∷ []))) ≡ is_among k (with_names image p (names_of image ps))
  unfolding names_of
  names_snoc [] p = refl
  names_snoc (q ∷ ps) p =
      with_parted q (names_of image (ps ++ (p ∷ [])))
      ∙ rw (names_snoc ps p, with_parted p (names_of image ps), with_parted p (with_names image q (names_of image ps)), with_parted q (names_of image ps))
      (or_swap (is_among k (with_names image q [])) (is_among k (with_names image p [])) (is_among k (names_of image ps)))

-- the names of the records at the first i places are marked
abbrev pub Marking : Bytes → List ℕ → ℕ → List ℕ → ℕ → Type 0
Marking image ps first words i = Marks first (names_of image (take i ps)) words

pub marking_begins : (image : Bytes) (ps : List ℕ) (first : ℕ) (words : List ℕ) → words ≡ replicate (length words) 0 → Marking image ps first words 0
unfolding names_of
marking_begins image ps first words e = subst⁻¹ (Marks first []) e (marks_fresh first (length words))

module _ (image : Bytes) (ps : List ℕ) (first : ℕ) (words : List ℕ) (i : ℕ) (marks : Marking image ps first words i) where
  pub marking_on : (words' : List ℕ) → i < length ps → length words' ≡ length words
      → ((names : List ℕ) → Marks first names words → Marks first (with_names image (get_or ps i 0) names) words')
      → Marking image ps first words' (i + 1)
  unfolding Marks
  marking_on words' h long step k l =
      let t : take (i + 1) ps ≡ take i ps ++ (get_or ps i 0 ∷ []) = rw add-one (take-suc ps i 0 h) in
      rw (t, names_snoc image (first + k) (take i ps) (get_or ps i 0)) (step (names_of image (take i ps)) marks k l)

  pub marking_ends : length ps ≤ i → Marks first (named_at image ps) words
  marking_ends h = marks_named image ps first words (rw (take_all i ps h) at marks)

-- ---- a volume names at most three ids for each of its records

parted_length : (t : ℕ → Bool) (ps : List ℕ) → length (keep (λ r. not (t r)) ps) + length (keep t ps) ≡ length ps
unfolding keep
parted_length t [] = refl
parted_length t (p ∷ ps) = go (t p) (parted_length t ps)
  where
    go : (b : Bool) → length (keep (λ r. not (t r)) ps) + length (keep t ps) ≡ length ps
        → length (cond (not b) (p ∷ keep (λ r. not (t r)) ps) (keep (λ r. not (t r)) ps)) + length (cond b (p ∷ keep t ps) (keep t ps)) ≡ suc (length ps)
    go true e = omega arith
    go false e = omega arith

pub few_names : (image : Bytes) (ps : List ℕ) → length (named_at image ps) ≤ 3 * length ps
unfolding named_ids volume_of
few_names image ps =
    let is = keep (λ r. not (block_at image r)) ps in
    let bs = keep (block_at image) ps in
    omega (
      arith,
      length-append (named_by_inodes (map (bytes_at image) is)) (named_by_blocks (map (bytes_at image) bs)),
      inodes_name (map (bytes_at image) is),
      blocks_name (map (bytes_at image) bs),
      length-map is (bytes_at image),
      length-map bs (bytes_at image),
      parted_length (block_at image) ps,
    )
