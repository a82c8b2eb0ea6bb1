-- T-11 with demand 3: "Demand 3 assumes that no acceptable record starts in an overwritten one. For the record's own start, give us that
-- without assuming it".
use Rattle.std.specs.Prelude.{ℕ, ◌≡◌, true, drop}
use Rattle.std.proofs.Common.{ap, ◌∙◌, arith}
use mathlib.Core.List.{List}
use Rattle.std.proofs.Math.Decide.{ℕ_discrete}
use Rattle.format.specs.Bytes.{Bytes}
use Rattle.format.specs.AreaHeader.{area_header_size}
use Rattle.format.specs.Record.{Kind, inode, block, acceptable, record_size}
use Rattle.format.specs.Reading.{Placed}
use Rattle.format_laws.specs.Crc.{Octets}
use Rattle.format_laws.specs.Octets.{octets_take, octets_drop}
use Rattle.format_laws.specs.Record.{Stands, an_inode, a_block, nothing, stands}
use Rattle.format_laws.specs.Reading.{records_lawful}
use Rattle.format_laws.specs.Taken.{records_from_lem, Taken, from_each}
use Rattle.calls.specs.Areas.{area_bytes}
use Rattle.calls.specs.declared.Descriptor.{Descriptor}
use Rattle.bursts.specs.Words.{IsKind, is_inode, is_block}
use Rattle.bursts.proofs.Caught.{caught}
use Rattle.demand3.specs.Words.{IsRecord, Within, touched, Demand3}
use Rattle.demand3.proofs.Demand3.{demand3}
use Rattle.demand3_bursts.specs.Start.{rest_at, AllSure, NoneBehind, SureDamage}

rest_octets : (image : Bytes) (d : Descriptor) (r : Placed) → Octets image → Octets (rest_at image d r)
rest_octets image d r o = octets_drop r.place (area_bytes image d) (octets_take d.length (drop d.offset image) (octets_drop d.offset image o))

-- of an overwritten record's own start nothing is assumed
module _ (xs ys : Bytes) (ds : List Descriptor) (before : Octets xs) (after : Octets ys) (s : AllSure xs ys ds) (d : Descriptor) (r : Placed)
    (o : IsRecord xs ds d r) (t : touched xs ys d r ≡ true) where
  stood : Taken record_size (area_bytes xs d) area_header_size r
  stood = from_each record_size records_lawful (area_bytes xs d) area_header_size r (rw (records_from_lem record_size (area_bytes xs d)) at o.1)

  of_kind : (k : Kind) → IsKind k → acceptable k (rest_at xs d r) ≡ true → record_size (rest_at ys d r) ≡ 0
  of_kind k i a =
      let c = s d r o t k i a in
      caught k (rest_at xs d r) (rest_at ys d r)
      (record {
        kind = i;
        bytes_before_lem = rest_octets xs d r before;
        bytes_after = rest_octets ys d r after;
        accepted = a;
        same_length = c.same_length;
      })
      c.sure

  none_at_start : record_size (rest_at ys d r) ≡ 0
  none_at_start = go (stands (rest_at xs d r))
    where
      go : Stands (rest_at xs d r) → record_size (rest_at ys d r) ≡ 0
      go (an_inode a e) = of_kind inode is_inode a
      go (a_block a e) = of_kind block is_block a
      go (nothing e) = absurd (omega (arith, stood.accepted))

-- then what demand 3 assumes of an overwritten record holds
pub none_new_lem : (xs ys : Bytes) (ds : List Descriptor) → Octets xs → Octets ys → AllSure xs ys ds → NoneBehind xs ys ds
    → (d : Descriptor) (r : Placed) → IsRecord xs ds d r → touched xs ys d r ≡ true
    → (j : ℕ) → Within r j → record_size (drop j (area_bytes ys d)) ≡ 0
none_new_lem xs ys ds before after s b d r o t j w = go (ℕ_discrete j r.place)
  where
    go : Dec (j ≡ r.place) → record_size (drop j (area_bytes ys d)) ≡ 0
    go (yes e) = ap (λ (i : ℕ). record_size (drop i (area_bytes ys d))) e ∙ none_at_start xs ys ds before after s d r o t
    go (no e) = b d r o t j w e

-- and so does all that it says
pub demand3_sure : (xs ys : Bytes) (ds : List Descriptor) → SureDamage xs ys ds → Demand3 xs ys ds
demand3_sure xs ys ds g =
    demand3 xs ys ds
    (record {
      one_length = g.one_length;
      mounts = g.mounts;
      clean = g.clean;
      inside = g.inside;
      no_new = none_new_lem xs ys ds g.bytes_before_lem g.bytes_after g.all_sure g.none_behind;
    })
