-- The file areas and the scratch areas among good descriptors, and whether file areas share an id.
use Rattle.std.specs.Prelude.{ℕ, suc, ◌+◌, ◌*◌, ◌≤◌, ◌<◌, ◌≡◌, refl, Bool, true, false, not, ◌&&◌, length, take, drop, get_or, set, T, ltb, eqb}
use Rattle.std.proofs.Math.Path.{sym, ap}
use Rattle.std.proofs.Common.{ap₂, ◌∙◌, ⊎_elim, arith, length-drop, drop-set-lt, eqb→eq, lt-ltb, eq-eqb, ne_eqb}
use mathlib.Core.List.Memᴰ
use mathlib.Core.List.{List, [], ◌∷◌, ◌++◌, map, append_assoc, append-nil}
use Rattle.std.proofs.Math.ListN.{length-set}
use Rattle.std.proofs.lemmas.List.{drop-set-add}
use Rattle.std.proofs.Math.Dec.{leb-suc-suc}
use Rattle.format.specs.Bytes.{Bytes}
use Rattle.format.specs.AreaHeader.{area_header_size}
use Rattle.volume.specs.Lists.{keep, all, once}
use Rattle.volume_laws.specs.Tests.{T→true, true→T, not_is_false}
use Rattle.volume_laws.specs.Lists.{keep_mem, keep_whole, all_mem, mem_all, not_all, all_map}
use Rattle.volume_laws.specs.Once.{once_nodup, once_mem, mem_once, pigeons}
use Rattle.calls.specs.Areas.{most_areas, good_area, file_areas, scratch_areas}
use Rattle.area_list.specs.Numbers.{paired}
use Rattle.calls.specs.Mount.{shared_area_id}
use Rattle.calls.specs.declared.Descriptor.{Descriptor}
use Rattle.area_list.specs.Described.{area_of, described, described_more}
use Rattle.area_list.specs.Listing.{pair_step, pair_holds, paired_end}
use Rattle.area_list.specs.Good.{Good}
use Rattle.volume_laws.specs.Steps.{keep_takes, keep_leaves, keep_ends}
use Rattle.area_list.specs.Steps.{pairwise}
use Rattle.area_read.specs.Kinds.{file_test, scratch_test, kind_of, id_of, HasId, kind_tests}
use Rattle.area_read.specs.declared.AreaKind.TheVariants.{File, Scratch, Invalid}
use Rattle.table_rows.specs.Parts.{part, part_long, part_set_behind}
use Rattle.area_pass.specs.Rows.{spans_at}
use Rattle.area_kinds.specs.declared.ScratchFound.{ScratchFound}
use Rattle.area_kinds.specs.declared.ScratchFound.TheVariants.{Missing, One, Several}
use Rattle.area_kinds.specs.declared.Kinds.{Kinds}

-- ---- ids

abbrev pub other_id : Bytes → ℕ → Descriptor → Bool
other_id image id d = not (eqb (id_of image d) id)

module _ (image : Bytes) (o r : ℕ) (h : HasId image o r) (n id : ℕ) (long : area_header_size ≤ n) where
  pub id_same : r ≡ id → other_id image id (area_of o n) ≡ false
  id_same e = rw (eq-eqb (id_of image (area_of o n)) id (sym (h.is n long) ∙ e))

  pub id_differs : (r ≡ id → ⊥) → other_id image id (area_of o n) ≡ true
  id_differs e = rw (ne_eqb (id_of image (area_of o n)) id (λ q. e (h.is n long ∙ q)))

-- no number stands twice
abbrev distinct : List ℕ → Bool
distinct = pairwise (λ x y. not (eqb y x))

once_short : (l : List ℕ) → length (once l) ≤ length l
once_short l = pigeons (once l) l (once_nodup l) (λ x m. once_mem l m)

-- a number that does not come again, and one that does
once_new : (x : ℕ) (l : List ℕ) → all (λ y. not (eqb y x)) l ≡ true → length (once (x ∷ l)) ≡ suc (length (once l))
unfolding once
once_new x l e =
    ap (λ m. suc (length m)) (keep_whole _ (once l) (λ y m. T→true (all_mem (λ z. not (eqb z x)) l (true→T e) (once_mem l m))))

once_again : (x : ℕ) (l : List ℕ) → all (λ y. not (eqb y x)) l ≡ false → length (once (x ∷ l)) ≤ length (once l)
once_again x l e =
    let w = not_all (λ y. not (eqb y x)) l (λ t. let f : T false = rw e at t in f) in
    let q = eqb→eq w.0 x (true→T (not_is_false (eqb w.0 x) w.2)) in
    pigeons (once (x ∷ l)) (once l) (once_nodup (x ∷ l))
    (λ y m. mem_once l y (⊎_elim (λ z. Memᴰ.cast (z ∙ sym q) w.1) (λ n. n) (Memᴰ.cases_cons (once_mem (x ∷ l) m))))

shorter_once : (l : List ℕ) → ltb (length (once l)) (length l) ≡ not (distinct l)
unfolding pairwise once
shorter_once [] = refl
shorter_once (x ∷ l) = go (all (λ y. not (eqb y x)) l) refl (shorter_once l)
  where
    go : (b : Bool) → all (λ y. not (eqb y x)) l ≡ b → ltb (length (once l)) (length l) ≡ not (distinct l)
        → ltb (length (once (x ∷ l))) (suc (length l)) ≡ not (b && distinct l)
    go true e ih = ap (λ n. ltb n (suc (length l))) (once_new x l e) ∙ leb-suc-suc (suc (length (once l))) (length l) ∙ ih
    go false e ih = lt-ltb (length (once (x ∷ l))) (suc (length l)) (omega (arith, once_again x l e, once_short l))

pairs_map : {A B : Type 0} (f : A → B) (r : B → B → Bool) (l : List A) → pairwise r (map f l) ≡ pairwise (λ a b. r (f a) (f b)) l
unfolding pairwise
pairs_map f r [] = refl
pairs_map f r (a ∷ l) = rw (all_map f (r (f a)) l, pairs_map f r l)

-- file areas share an id unless each has another one than every later area
abbrev pub own_id : Bytes → Descriptor → Descriptor → Bool
own_id image d e = other_id image (id_of image d) e

pub shared_pairs : (image : Bytes) (fs : List Descriptor) → shared_area_id image fs ≡ not (pairwise (own_id image) fs)
unfolding shared_area_id
shared_pairs image fs = shorter_once (map (id_of image) fs) ∙ ap not (pairs_map (id_of image) (λ x y. not (eqb y x)) fs)

-- ---- scratch areas

abbrev pub one_more : ScratchFound → Descriptor → ScratchFound
one_more Missing d = One d
one_more (One e) d = Several
one_more Several d = Several

-- what is found of them, after what was found before
unfoldable pub gathered : ScratchFound → List Descriptor → ScratchFound
gathered s [] = s
gathered s (d ∷ l) = gathered (one_more s d) l

abbrev pub scratch_of : List Descriptor → ScratchFound
scratch_of = gathered Missing

gathered_several : (l : List Descriptor) → gathered Several l ≡ Several
unfolding gathered
gathered_several [] = refl
gathered_several (d ∷ l) = gathered_several l

pub scratch_one : (l : List Descriptor) (d : Descriptor) → scratch_of l ≡ One d → l ≡ d ∷ []
unfolding gathered
scratch_one [] d e = cc
scratch_one (f ∷ []) d e = cc
scratch_one (f ∷ g ∷ l) d e = let h = gathered_several l in cc

pub one_scratch : (l : List Descriptor) → length l ≡ 1 → (d : Descriptor) × (scratch_of l ≡ One d)
unfolding gathered
one_scratch [] h = absurd (omega arith)
one_scratch (d ∷ []) h = (d, refl)
one_scratch (d ∷ f ∷ l) h = absurd (omega arith)

-- ---- the areas, sorted out in one pass

-- good areas as pairs, and rows with room for all of them
pub record Room (size : ℕ) (pairs rows : List ℕ) : Type 0 where
  pub good : all (good_area size) (paired pairs) ≡ true
  pub few : length pairs ≤ most_areas * 2
  pub long : spans_at + most_areas ≤ length rows

-- the file areas in the first n rows
abbrev pub rows_of : ℕ → List ℕ → List Descriptor
rows_of n rows = described (part 0 n rows) (part spans_at n rows)

-- what is found: so many file areas, which stand in the rows, and the scratch areas
pub record Sorted (image : Bytes) (ds : List Descriptor) (r : Kinds) (rows : List ℕ) : Type 0 where
  pub files : rows_of r.files rows ≡ file_areas image ds
  pub few : r.files ≤ most_areas
  pub scratch : r.scratch ≡ scratch_of (scratch_areas image ds)

-- the areas before i are sorted out
pub record Sorting (image : Bytes) (pairs rows₀ rows : List ℕ) (files : ℕ) (found : ScratchFound) (i : ℕ) : Type 0 where
  pub within : i * 2 ≤ length pairs
  pub few : files ≤ i
  pub long : length rows ≡ length rows₀
  pub files_are : rows_of files rows ++ file_areas image (paired (drop (i * 2) pairs)) ≡ file_areas image (paired pairs)
  pub scratch_is : gathered found (scratch_areas image (paired (drop (i * 2) pairs)))
      ≡ scratch_of (scratch_areas image (paired pairs))

pub sorting_begins : (image : Bytes) (pairs rows : List ℕ) → Sorting image pairs rows rows 0 Missing 0
unfolding described
sorting_begins image pairs rows = record { within = omega arith; few = omega arith; long = refl; files_are = refl; scratch_is = refl }

-- one more stored
rows_more : (n o l : ℕ) (rows : List ℕ) → n < most_areas → spans_at + most_areas ≤ length rows
    → rows_of (n + 1) (set (set rows n o) (spans_at + n) l) ≡ rows_of n rows ++ (area_of o l ∷ [])
rows_more n o l rows h long =
    ap₂ described
    (part_set_behind 0 (n + 1) (spans_at + n) l (set rows n o) (omega arith))
    (ap (take (n + 1)) (drop-set-add spans_at (set rows n o) n l ∙ ap (λ (x : List ℕ). set x n l) (drop-set-lt spans_at rows n o h)))
    ∙ described_more rows (drop spans_at rows) n o l (omega arith) (omega (arith, length-drop spans_at rows))

module _ (image : Bytes) (pairs rows₀ rows : List ℕ) (files : ℕ) (found : ScratchFound) (i : ℕ)
    (s : Sorting image pairs rows₀ rows files found i) (room : Room (length image) pairs rows₀) where
  module _ (h : i * 2 + 1 < length pairs) where
    abbrev area : Descriptor
    area = area_of (get_or pairs (i * 2) 0) (get_or pairs (i * 2 + 1) 0)

    pub area_good : good_area (length image) area ≡ true
    area_good = pair_holds (good_area (length image)) pairs i room.good h

    pub sorting_file : kind_of image area ≡ File
        → Sorting image pairs rows₀ (set (set rows files (get_or pairs (i * 2) 0)) (spans_at + files) (get_or pairs (i * 2 + 1) 0)) (files + 1) found (i + 1)
    unfolding file_areas scratch_areas
    sorting_file e = let t = kind_tests image area File e in record {
      within = omega arith;
      few = omega (arith, s.few);
      long = length-set (set rows files (get_or pairs (i * 2) 0)) (spans_at + files) (get_or pairs (i * 2 + 1) 0) ∙ length-set rows files (get_or pairs (i * 2) 0) ∙ s.long;
      files_are = rw (rows_more files (get_or pairs (i * 2) 0) (get_or pairs (i * 2 + 1) 0) rows (omega (arith, s.few, room.few)) (omega (arith, s.long, room.long)))
          (append_assoc (rows_of files rows) (area ∷ []) _
          ∙ ap (λ (x : List Descriptor). rows_of files rows ++ x) (sym (keep_takes (pair_step pairs i h) (file_test image) t.0)) ∙ s.files_are);
      scratch_is = sym (ap (gathered found) (keep_leaves (pair_step pairs i h) (scratch_test image) t.1)) ∙ s.scratch_is;
    }

    pub sorting_scratch : kind_of image area ≡ Scratch → Sorting image pairs rows₀ rows files (one_more found area) (i + 1)
    unfolding file_areas scratch_areas gathered
    sorting_scratch e = let t = kind_tests image area Scratch e in record {
      within = omega arith;
      few = omega (arith, s.few);
      long = s.long;
      files_are = ap (λ (x : List Descriptor). rows_of files rows ++ x) (sym (keep_leaves (pair_step pairs i h) (file_test image) t.0)) ∙ s.files_are;
      scratch_is = sym (ap (gathered found) (keep_takes (pair_step pairs i h) (scratch_test image) t.1)) ∙ s.scratch_is;
    }

    pub sorting_passes : kind_of image area ≡ Invalid → Sorting image pairs rows₀ rows files found (i + 1)
    unfolding file_areas scratch_areas
    sorting_passes e = let t = kind_tests image area Invalid e in record {
      within = omega arith;
      few = omega (arith, s.few);
      long = s.long;
      files_are = ap (λ (x : List Descriptor). rows_of files rows ++ x) (sym (keep_leaves (pair_step pairs i h) (file_test image) t.0)) ∙ s.files_are;
      scratch_is = sym (ap (gathered found) (keep_leaves (pair_step pairs i h) (scratch_test image) t.1)) ∙ s.scratch_is;
    }

  pub sorting_ends : length pairs ≤ i * 2 + 1 → Sorted image (paired pairs) (record { files = files; scratch = found }) rows
  unfolding file_areas scratch_areas gathered
  sorting_ends h = record {
    files = sym (append-nil _)
        ∙ ap (λ (x : List Descriptor). rows_of files rows ++ x) (sym (keep_ends (paired_end pairs (i * 2) h) (file_test image))) ∙ s.files_are;
    few = omega (arith, s.few, s.within, room.few);
    scratch = sym (ap (gathered found) (keep_ends (paired_end pairs (i * 2) h) (scratch_test image))) ∙ s.scratch_is;
  }

-- the file areas are good too
pub files_good : (image : Bytes) (ds : List Descriptor) (r : Kinds) (rows : List ℕ) → Sorted image ds r rows → spans_at + most_areas ≤ length rows
    → all (good_area (length image)) ds ≡ true → Good (length image) (part 0 r.files rows) (part spans_at r.files rows)
unfolding file_areas
files_good image ds r rows s long e = record {
  pairs = part_long 0 r.files rows (omega (arith, s.few)) ∙ sym (part_long spans_at r.files rows (omega (arith, s.few)));
  good = ap (all (good_area (length image))) s.files
      ∙ T→true (mem_all (good_area (length image)) (keep (file_test image) ds) (λ a n. all_mem (good_area (length image)) ds (true→T e) (keep_mem (file_test image) ds n).0));
}

-- ---- spans

pub all_spans : (p : ℕ → Bool) (starts spans : List ℕ) → length starts ≡ length spans → all (λ d. p d.length) (described starts spans) ≡ all p spans
unfolding described all
all_spans p [] [] e = refl
all_spans p [] (n ∷ spans) e = absurd (omega arith)
all_spans p (o ∷ starts) [] e = absurd (omega arith)
all_spans p (o ∷ starts) (n ∷ spans) e = rw (all_spans p starts spans (omega arith))
