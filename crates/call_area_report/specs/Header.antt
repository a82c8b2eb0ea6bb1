-- What a header says, by the kind of its area.
use Rattle.std.specs.Prelude.{ℕ, ◌≡◌, Bool, ◌&&◌, eqb}
use Rattle.std.proofs.Math.Path.{refl}
use Rattle.std.proofs.Math.Bool.{true, false, cond, not}
use Rattle.format.specs.Bytes.{Bytes}
use Rattle.format.specs.AreaHeader.{scratch_id, valid_header, is_file_area, is_scratch}
use Rattle.calls.specs.Areas.{area_bytes}
use Rattle.calls.specs.Collect.{count_of}
use Rattle.calls.specs.AreaReport.{kind_number, if_valid}
use Rattle.calls.specs.declared.Descriptor.{Descriptor}
use Rattle.area_read.specs.Kinds.{file_test, scratch_test, id_of, kind_of}
use Rattle.area_read.specs.declared.AreaKind.{AreaKind}
use Rattle.area_read.specs.declared.AreaKind.TheVariants.{File, Scratch, Invalid}
use Rattle.call_area_report.specs.declared.Header.{Header}

pub record HeaderSays (image : Bytes) (d : Descriptor) (h : Header) : Type 0 where
  pub kind : h.kind ≡ kind_number d.length (area_bytes image d)
  pub id : h.id ≡ if_valid d.length (area_bytes image d) (id_of image d)
  pub count : h.count ≡ if_valid d.length (area_bytes image d) (count_of image d)

-- the number of a kind, and what is said by a header of that kind
abbrev number_of : AreaKind → ℕ
number_of File = 1
number_of Scratch = 2
number_of Invalid = 0

abbrev said_by : AreaKind → ℕ → ℕ
said_by File x = x
said_by Scratch x = x
said_by Invalid x = 0

module _ (image : Bytes) (d : Descriptor) where
  kind_number_lem : number_of (kind_of image d) ≡ kind_number d.length (area_bytes image d)
  unfolding kind_number kind_of
  kind_number_lem = go (file_test image d) (scratch_test image d)
    where
      go : (b c : Bool) → number_of (cond b File (cond c Scratch Invalid)) ≡ cond b 1 (cond c 2 0)
      go true c = refl
      go false true = refl
      go false false = refl

  said : (x : ℕ) → said_by (kind_of image d) x ≡ if_valid d.length (area_bytes image d) x
  unfolding if_valid kind_of is_file_area is_scratch
  said x = go (valid_header d.length (area_bytes image d)) (eqb (id_of image d) scratch_id)
    where
      go : (b c : Bool) → said_by (cond (b && not c) File (cond (b && c) Scratch Invalid)) x ≡ cond b x 0
      go true true = refl
      go true false = refl
      go false c = refl

  pub says : (k : AreaKind) → kind_of image d ≡ k → (id count : ℕ) → id ≡ id_of image d → count ≡ count_of image d
      → HeaderSays image d (record { kind = number_of k; id = said_by k id; count = said_by k count })
  says k e id count a b = rw (← e, a, b) (record { kind = kind_number_lem; id = said (id_of image d); count = said (count_of image d) })
