-- The number of a format and the image after it, by the areas listed.
use Rattle.std.specs.Prelude.{ℕ, ◌*◌, ◌≤◌, ◌≡◌, true, false, List, length, take, ltb}
use Rattle.std.proofs.Common.{ap, sym, ◌∙◌, arith, length-take-le, lt-ltb, le-ltb}
use Rattle.format.specs.Bytes.{Bytes}
use Rattle.area_list.specs.Numbers.{paired, area_list}
use Rattle.calls.specs.Refusal.{first_refusal}
use Rattle.calls.specs.Mount.{bad_description}
use Rattle.calls.specs.Format.{format_number, formatted, image_formatted}
use Rattle.calls.specs.declared.Descriptor.{Descriptor}
use Rattle.area_list.specs.Listing.{paired_length}
use Rattle.area_list.specs.Description.{GoodList, description_good, listed_good}
use Rattle.call_format.specs.Areas.{Lent}

module _ (image : Bytes) (ds : List Descriptor) where
  -- the number and the image of a format
  abbrev pub Outcome : ℕ → Bytes → Type 0
  Outcome r x = (r ≡ format_number image ds) × (x ≡ image_formatted image ds)

  bad : bad_description image ds ≡ true → Outcome 1 image
  unfolding format_number image_formatted first_refusal
  bad e = (simp e, simp e)

  few : bad_description image ds ≡ false → ltb (length ds) 2 ≡ true → Outcome 3 image
  unfolding format_number image_formatted first_refusal
  few e f = (simp (e, f), simp (e, f))

  enough : bad_description image ds ≡ false → ltb (length ds) 2 ≡ false → Outcome 0 (formatted image ds)
  unfolding format_number image_formatted first_refusal
  enough e f = (simp (e, f), simp (e, f))

module _ (image : Bytes) (areas : List ℕ) (n : ℕ) (g : GoodList image areas n) where
  pub format_bad : n ≡ 0 → Outcome image (area_list areas) 1 image
  format_bad e = bad image (area_list areas) (g.refused e)

  module _ (some : n ≡ 0 → ⊥) where
    long : length (take (n * 2) areas) ≡ n * 2
    long = length-take-le (n * 2) areas g.within

    count : length (area_list areas) ≡ n
    count = ap length (sym (g.is some)) ∙ paired_length n (take (n * 2) areas) long

    pub format_few : n ≡ 1 → Outcome image (area_list areas) 3 image
    format_few e = few image (area_list areas) (g.passed some) (lt-ltb (length (area_list areas)) 2 (omega (arith, count)))

    module _ (more : n ≡ 1 → ⊥) where
      pub format_lent : Lent image (take (n * 2) areas) × (4 ≤ length (take (n * 2) areas))
      format_lent = (
        record {
          small = (description_good image (area_list areas) (g.passed some)).small;
          few = omega (arith, g.few, long);
          good = listed_good image areas n g some;
        },
        omega (arith, long),
      )

      pub format_done : (x : Bytes) → x ≡ formatted image (paired (take (n * 2) areas)) → Outcome image (area_list areas) 0 x
      format_done x e =
          let o = enough image (area_list areas) (g.passed some) (le-ltb (length (area_list areas)) 2 (omega (arith, count))) in
          (o.0, e ∙ ap (formatted image) (g.is some) ∙ o.1)
