-- The labels that format gives to areas: one scratch area, the first of the longest, and 0, 1, .. for the others in order.
use Rattle.std.specs.Prelude.{ℕ, suc, max, ◌+◌, ◌≤◌, ◌≡◌, refl, ◌≢◌, Bool, true, false, cond, not, length, eqb}
use Rattle.std.proofs.Common.{sym, ap, ◌∙◌, ⊎_elim, arith, eqb-true}
use mathlib.Core.List.Memᴰ
use mathlib.Core.List.{List, [], ◌∷◌, map, Memᴰ}
use Rattle.std.proofs.Math.Decide.{dec_le}
use Rattle.format.specs.AreaHeader.{scratch_id}
use Rattle.volume.specs.Lists.{keep}
use Rattle.volume_laws.specs.Tests.{eqb_false, eqb_differ}
use Rattle.calls.specs.Format.{longest_length, Labelled, numbered, labelled}
use Rattle.calls.specs.declared.Descriptor.{Descriptor}
use Rattle.calls_laws.specs.Unused.{upwards}

abbrev pub area_of : Labelled → Descriptor
area_of l = l.area

abbrev pub label_of : Labelled → ℕ
label_of l = l.id

abbrev pub is_scratch_label : Labelled → Bool
is_scratch_label l = eqb l.id scratch_id

abbrev pub is_file_label : Labelled → Bool
is_file_label l = not (eqb l.id scratch_id)

-- every area has its label, in the order of the list
numbered_areas : (n : ℕ) (ds : List Descriptor) → map area_of (numbered n ds) ≡ ds
unfolding numbered
numbered_areas n [] = refl
numbered_areas n (d ∷ ds) = ap (λ (l : List Descriptor). d ∷ l) (numbered_areas (suc n) ds)

pub labelled_areas : (most n : ℕ) (ds : List Descriptor) → map area_of (labelled most n ds) ≡ ds
unfolding labelled
labelled_areas most n [] = refl
labelled_areas most n (d ∷ ds) = go (eqb d.length most) (labelled_areas most (suc n) ds)
  where
    go : (b : Bool) → map area_of (labelled most (suc n) ds) ≡ ds
        → map area_of (cond b (record { area = d; id = scratch_id } ∷ numbered n ds) (record { area = d; id = n } ∷ labelled most (suc n) ds)) ≡ d ∷ ds
    go true ih = ap (λ (l : List Descriptor). d ∷ l) (numbered_areas n ds)
    go false ih = ap (λ (l : List Descriptor). d ∷ l) ih

-- the greatest length is that of some area, and no area is longer
pub longest_bounds : (ds : List Descriptor) (d : Descriptor) → Memᴰ d ds → d.length ≤ longest_length ds
unfolding longest_length
longest_bounds [] d m = elim m [ ]
longest_bounds (e ∷ ds) d (Memᴰ.head q) = rw q (omega arith)
longest_bounds (e ∷ ds) d (Memᴰ.tail m) = let h = longest_bounds ds d m in omega arith

pub longest_there : (ds : List Descriptor) → length ds ≢ 0 → (d : Descriptor) × Memᴰ d ds × (d.length ≡ longest_length ds)
unfolding longest_length
longest_there [] h = absurd (h refl)
longest_there (e ∷ []) h = (e, Memᴰ.head refl, omega arith)
longest_there (e ∷ f ∷ ds) h = go (dec_le (longest_length (f ∷ ds)) e.length) (longest_there (f ∷ ds) (λ z. omega arith))
  where
    go : Dec (longest_length (f ∷ ds) ≤ e.length) → (d : Descriptor) × Memᴰ d (f ∷ ds) × (d.length ≡ longest_length (f ∷ ds))
        → (d : Descriptor) × Memᴰ d (e ∷ f ∷ ds) × (d.length ≡ max e.length (longest_length (f ∷ ds)))
    go (yes l) t = (e, Memᴰ.head refl, omega arith)
    go (no l) t = (t.0, Memᴰ.tail t.1, omega (arith, t.2))

-- ---- labels from n on, below the scratch area's

numbered_files : (n : ℕ) (ds : List Descriptor) → n + length ds ≤ scratch_id
    → (keep is_scratch_label (numbered n ds) ≡ []) × (map label_of (keep is_file_label (numbered n ds)) ≡ upwards (length ds) n)
unfolding numbered keep upwards
numbered_files n [] h = (refl, refl)
numbered_files n (d ∷ ds) h =
    let e : eqb n scratch_id ≡ false = eqb_differ n scratch_id (λ z. omega arith) in
    let ih = numbered_files (suc n) ds (omega arith) in
    (rw e ih.0, rw e (ap (λ (l : List ℕ). n ∷ l) ih.1))

-- the labels of a list in which an area has the greatest length
pub record Labels (most n : ℕ) (ds : List Descriptor) : Type 0 where
  pub scratch : Descriptor
  pub count : ℕ
  pub one_scratch : keep is_scratch_label (labelled most n ds) ≡ record { area = scratch; id = scratch_id } ∷ []
  pub longest : scratch.length ≡ most
  -- "first among equals"
  pub rest : List Descriptor
  pub first : keep (λ d. eqb d.length most) ds ≡ scratch ∷ rest
  -- "the others get ids 0, 1, ... in order"
  pub others : length ds ≡ suc count
  pub in_order : map label_of (keep is_file_label (labelled most n ds)) ≡ upwards count n

pub labels : (most n : ℕ) (ds : List Descriptor) → n + length ds ≤ scratch_id → (d : Descriptor) → Memᴰ d ds → d.length ≡ most → Labels most n ds
unfolding labelled keep upwards
labels most n [] h s m q = absurd (Memᴰ.not-nil m)
labels most n (d ∷ ds) h s m q = go (eqb d.length most) refl (λ k. labels most (suc n) ds (omega arith) s k q)
  where
    low : eqb n scratch_id ≡ false
    low = eqb_differ n scratch_id (λ z. omega arith)

    here : eqb d.length most ≡ true → Labels most n (d ∷ ds)
    here e =
        let f = numbered_files n ds (omega arith) in
        record {
          scratch = d;
          count = length ds;
          one_scratch = rw (labelled, e) (ap (λ (l : List Labelled). record { area = d; id = scratch_id } ∷ l) f.0);
          longest = eqb-true d.length most e;
          rest = keep (λ d. eqb d.length most) ds;
          first = rw e;
          others = refl;
          in_order = rw (labelled, e) f.1;
        }

    later : eqb d.length most ≡ false → Labels most (suc n) ds → Labels most n (d ∷ ds)
    later e l = record {
      scratch = l.scratch;
      count = suc l.count;
      one_scratch = rw (labelled, e, low) l.one_scratch;
      longest = l.longest;
      rest = l.rest;
      first = rw e l.first;
      others = ap suc l.others;
      in_order = rw (labelled, e, low) (ap (λ (x : List ℕ). n ∷ x) l.in_order);
    }

    go : (b : Bool) → eqb d.length most ≡ b → (Memᴰ s ds → Labels most (suc n) ds) → Labels most n (d ∷ ds)
    go true e ih = here e
    go false e ih = later e (ih (⊎_elim (λ z. absurd (eqb_false d.length most e (ap (λ (x : Descriptor). x.length) (sym z) ∙ q))) (λ k. k)
        (Memᴰ.cases_cons m)))
