-- Checks 1 to 4, which turn on the areas alone, and what they answer.
use Rattle.std.specs.Prelude.{ℕ, zero, suc, ◌≤◌, ◌≡◌, refl, Bool, true, false, cond, not, List, [], ◌∷◌, ◌++◌, length, leb, eqb, Result, Ok, Err}
use Rattle.std.proofs.Common.{sym, ◌∙◌, arith}
use Rattle.std.proofs.Math.Bool.{or-true}
use borrow.Author.Tests.{eq-eqb, ne_eqb, eqb-true}
use Rattle.format.specs.Bytes.{Bytes}
use Rattle.volume.specs.Lists.{all}
use Rattle.volume.specs.View.{by_bytes}
use Rattle.volume.specs.Counting.{all_agree}
use Rattle.volume_laws.specs.Tests.{or_is_false, not_is_false, eqb_false}
use Rattle.calls.specs.Areas.{most_areas, file_areas, scratch_areas}
use Rattle.calls.specs.Refusal.{Check, ◌refused_by◌, first_refusal}
use Rattle.calls.specs.Mount.{accepted_records, volume, bad_description, shared_area_id, wrong_areas, short_scratch, too_many_ids, no_root}
use Rattle.calls.specs.Mount.{mount_checks, mount_number}
use Rattle.calls.specs.Attempt.{number_of}
use Rattle.calls.specs.Outcome.{outcome_of}
use Rattle.calls.specs.declared.Descriptor.{Descriptor}
use Rattle.calls.specs.declared.Refusal.{Refusal}
use Rattle.calls.specs.declared.Refusal.TheVariants.{BadAreas, SameAreaId, NoFileOrScratch, ShortScratch}
use Rattle.calls_laws.specs.Checks.{passed_first}
use Rattle.area_kinds.specs.declared.ScratchFound.{ScratchFound}
use Rattle.area_kinds.specs.declared.ScratchFound.TheVariants.{One}
use Rattle.area_kinds.specs.declared.Kinds.{Kinds}
use Rattle.area_kinds.specs.declared.CheckedAreas.{CheckedAreas}
use Rattle.area_list.specs.Described.{described, described_length}
use Rattle.area_kinds.specs.Kinds.{scratch_of, scratch_one, one_scratch, all_spans, rows_of, Sorted}

-- checks 2 to 4, of the file areas and the scratch areas
unfoldable pub kind_checks : Bytes → List Descriptor → List Descriptor → List Check
kind_checks image fs ss = (shared_area_id image fs refused_by 2) ∷ (wrong_areas fs ss refused_by 3) ∷ (short_scratch fs ss refused_by 4) ∷ []

unfoldable pub area_checks : Bytes → List Descriptor → List Check
area_checks image ds = (bad_description image ds refused_by 1) ∷ kind_checks image (file_areas image ds) (scratch_areas image ds)

-- checks 5 to 7, of the records
unfoldable pub record_checks : Bytes → List Descriptor → List Check
record_checks image ds =
    (too_many_ids (volume image ds) refused_by 5)
    ∷ (not (all_agree by_bytes (accepted_records image ds)) refused_by 6)
    ∷ (no_root (volume image ds) refused_by 7)
    ∷ []

-- ---- the checks of a mount are these, in this order

pub mount_checks_lem : (image : Bytes) (ds : List Descriptor) → mount_checks image ds ≡ area_checks image ds ++ record_checks image ds
unfolding mount_checks area_checks kind_checks record_checks
mount_checks_lem image ds = refl

four : (a b c d : Bool) (n m : ℕ) → cond a 1 (cond b 2 (cond c 3 (cond d 4 0))) ≡ n
    → cond a 1 (cond b 2 (cond c 3 (cond d 4 m))) ≡ cond (eqb n 0) m n
four true b c d n m e = rw (sym e)
four false true c d n m e = rw (sym e)
four false false true d n m e = rw (sym e)
four false false false true n m e = rw (sym e)
four false false false false n m e = rw (sym e)

module _ (image : Bytes) (ds : List Descriptor) where
  pub mount_number_lem : (n : ℕ) → first_refusal (area_checks image ds) ≡ n → mount_number image ds ≡ cond (eqb n 0) (first_refusal (record_checks image ds)) n
  unfolding mount_number mount_checks area_checks kind_checks record_checks first_refusal
  mount_number_lem n e =
      four (bad_description image ds) (shared_area_id image (file_areas image ds)) (wrong_areas (file_areas image ds) (scratch_areas image ds))
      (short_scratch (file_areas image ds) (scratch_areas image ds)) n _ e

  pub mount_refused : (n : ℕ) → first_refusal (area_checks image ds) ≡ n → (n ≡ 0 → ⊥) → mount_number image ds ≡ n
  mount_refused n e h = mount_number_lem n e ∙ rw (ne_eqb n 0 h)

  pub mount_goes_on : first_refusal (area_checks image ds) ≡ 0 → mount_number image ds ≡ first_refusal (record_checks image ds)
  mount_goes_on e = mount_number_lem 0 e

-- ---- checks 2 to 4

module _ (image : Bytes) (fs ss : List Descriptor) where
  pub kinds_shared : shared_area_id image fs ≡ true → first_refusal (kind_checks image fs ss) ≡ 2
  unfolding first_refusal kind_checks
  kinds_shared e = rw e

  pub kinds_no_file : shared_area_id image fs ≡ false → length fs ≡ 0 → first_refusal (kind_checks image fs ss) ≡ 3
  unfolding first_refusal kind_checks wrong_areas
  kinds_no_file e h = rw (e, eq-eqb (length fs) 0 h)

  pub kinds_scratch : shared_area_id image fs ≡ false → (length ss ≡ 1 → ⊥) → first_refusal (kind_checks image fs ss) ≡ 3
  unfolding first_refusal kind_checks wrong_areas
  kinds_scratch e h = rw (e, ne_eqb (length ss) 1 h, or-true (eqb (length fs) 0))

  module _ (own : shared_area_id image fs ≡ false) (some : length fs ≡ 0 → ⊥) (s : Descriptor) (one : ss ≡ s ∷ []) where
    pub kinds_short : all (λ f. leb f.length s.length) fs ≡ false → first_refusal (kind_checks image fs ss) ≡ 4
    unfolding first_refusal kind_checks wrong_areas short_scratch all
    kinds_short e = rw (own, one, ne_eqb (length fs) 0 some, e)

    pub kinds_pass : all (λ f. leb f.length s.length) fs ≡ true → first_refusal (kind_checks image fs ss) ≡ 0
    unfolding first_refusal kind_checks wrong_areas short_scratch all
    kinds_pass e = rw (own, one, ne_eqb (length fs) 0 some, e)

-- r is what checks 2 to 4 answer for file areas and scratch areas: the first refusal, or the one scratch area
pub record KindsChecked (image : Bytes) (fs ss : List Descriptor) (r : Result Descriptor Refusal) : Type 0 where
  pub refusal : number_of (outcome_of r) ≡ first_refusal (kind_checks image fs ss)
  pub scratch : (d : Descriptor) → r ≡ Ok d → ss ≡ d ∷ []

-- it is where s is found of the scratch areas
pub record KindsAnswer (image : Bytes) (fs : List Descriptor) (s : ScratchFound) (r : Result Descriptor Refusal) : Type 0 where
  pub is : (ss : List Descriptor) → s ≡ scratch_of ss → KindsChecked image fs ss r

module _ (image : Bytes) (starts spans : List ℕ) (pairs : length starts ≡ length spans) (s : ScratchFound) where
  abbrev fs : List Descriptor
  fs = described starts spans

  pub answer_shared : shared_area_id image fs ≡ true → KindsAnswer image fs s (Err SameAreaId)
  answer_shared e = record { is = λ ss q. record { refusal = sym (kinds_shared image fs ss e); scratch = λ d z. cc } }

  module _ (own : shared_area_id image fs ≡ false) where
    pub answer_no_file : length starts ≡ 0 → KindsAnswer image fs s (Err NoFileOrScratch)
    answer_no_file h = record {
      is = λ ss q. record { refusal = sym (kinds_no_file image fs ss own (described_length starts spans pairs ∙ h)); scratch = λ d z. cc };
    }

    pub answer_scratch : ((d : Descriptor) → s ≡ One d → ⊥) → KindsAnswer image fs s (Err NoFileOrScratch)
    answer_scratch h = record {
      is = λ ss q. record { refusal = sym (kinds_scratch image fs ss own (λ z. let o = one_scratch ss z in h o.0 (q ∙ o.1))); scratch = λ d z. cc };
    }

    module _ (some : length starts ≡ 0 → ⊥) (area : Descriptor) (one : s ≡ One area) where
      pub answer_short : all (λ n. leb n area.length) spans ≡ false → KindsAnswer image fs s (Err ShortScratch)
      answer_short e = record {
        is = λ ss q. record {
          refusal = sym (kinds_short image fs ss own (λ z. some (sym (described_length starts spans pairs) ∙ z)) area (scratch_one ss area (sym q ∙ one))
              (all_spans (λ n. leb n area.length) starts spans pairs ∙ e));
          scratch = λ d z. cc;
        };
      }

      pub answer_pass : all (λ n. leb n area.length) spans ≡ true → KindsAnswer image fs s (Ok area)
      answer_pass e = record {
        is = λ ss q.
            let o = scratch_one ss area (sym q ∙ one) in
            record {
              refusal = sym (kinds_pass image fs ss own (λ z. some (sym (described_length starts spans pairs) ∙ z)) area o
                  (all_spans (λ n. leb n area.length) starts spans pairs ∙ e));
              scratch = λ d z. let w : area ≡ d = cc in rw (← w) o;
            };
      }

-- what checks 2 to 4 give where they pass
pub record KindsPass (image : Bytes) (fs ss : List Descriptor) : Type 0 where
  pub own_ids : shared_area_id image fs ≡ false
  pub some : 1 ≤ length fs
  pub one : length ss ≡ 1
  pub long : short_scratch fs ss ≡ false

pub kinds_passed : (image : Bytes) (fs ss : List Descriptor) → first_refusal (kind_checks image fs ss) ≡ 0 → KindsPass image fs ss
unfolding kind_checks first_refusal wrong_areas
kinds_passed image fs ss e =
    let a = passed_first (shared_area_id image fs) 1 _ e in
    let b = passed_first (wrong_areas fs ss) 2 _ a.1 in
    let c = passed_first (short_scratch fs ss) 3 0 b.1 in
    let w = or_is_false (eqb (length fs) 0) (not (eqb (length ss) 1)) b.0 in
    record {
      own_ids = a.0;
      some = let n = eqb_false (length fs) 0 w.0 in pos (length fs) n;
      one = eqb-true (length ss) 1 (not_is_false (eqb (length ss) 1) w.1);
      long = c.0;
    }
  where
    pos : (n : ℕ) → (n ≡ 0 → ⊥) → 1 ≤ n
    pos zero h = absurd (h refl)
    pos (suc n) h = omega arith

-- ---- the answer

-- the areas of a volume: rows that begin with its file areas, and its scratch area
pub record Split (image : Bytes) (ds : List Descriptor) (r : CheckedAreas) (rows : List ℕ) : Type 0 where
  pub files : rows_of r.files rows ≡ file_areas image ds
  pub few : r.files ≤ most_areas
  pub scratch : scratch_areas image ds ≡ r.scratch ∷ []

-- the answer of checks 1 to 4
pub record Checked (image : Bytes) (ds : List Descriptor) (r : Result CheckedAreas Refusal) (rows : List ℕ) : Type 0 where
  pub refusal : number_of (outcome_of r) ≡ first_refusal (area_checks image ds)
  pub split : (a : CheckedAreas) → r ≡ Ok a → Split image ds a rows

pub bad_checked : (image : Bytes) (ds : List Descriptor) (rows : List ℕ) → bad_description image ds ≡ true → Checked image ds (Err BadAreas) rows
unfolding area_checks first_refusal
bad_checked image ds rows e = record { refusal = rw e; split = λ a z. cc }

-- the kinds are checked, after check 1
module _ (image : Bytes) (ds : List Descriptor) (good : bad_description image ds ≡ false) (k : Kinds) (rows : List ℕ) (s : Sorted image ds k rows)
    (r : Result Descriptor Refusal) (answer : KindsAnswer image (rows_of k.files rows) k.scratch r) where
  checked : KindsChecked image (file_areas image ds) (scratch_areas image ds) r
  checked = rw s.files at (answer.is (scratch_areas image ds) s.scratch)

  answered : number_of (outcome_of r) ≡ first_refusal (area_checks image ds)
  unfolding area_checks first_refusal
  answered = rw good checked.refusal

  pub checked_refused : (e : Refusal) → r ≡ Err e → Checked image ds (Err e) rows
  checked_refused e q = record { refusal = rw q at answered; split = λ a z. cc }

  pub checked_passes : (d : Descriptor) → r ≡ Ok d → Checked image ds (Ok (record { files = k.files; scratch = d })) rows
  checked_passes d q = record {
    refusal = rw q at answered;
    split = λ a z.
        let w : record { files = k.files; scratch = d } ≡ a = cc in
        rw (← w) (record { files = s.files; few = s.few; scratch = checked.scratch d q });
  }
