-- The first damaged image of demand 3's example is such damage: a burst in one record. What is left to be assumed is computed. And why
-- something is left: a block may hold a record.
use Rattle.std.specs.Prelude.{◌+◌, ◌-◌, ◌≡◌, refl, Bool, true, not, ◌&&◌, ◌||◌, length, drop, T, eqb}
use Rattle.std.proofs.Common.{arith, T_not, eqb-true}
use Rattle.format.specs.Bytes.{le16, le32}
use Rattle.format.specs.Crc.{crc_bit, crc_byte, crc_over, check}
use Rattle.format.specs.Ids.{is_directory_id, is_file_id, is_inode_id, is_block_id}
use Rattle.format.specs.Record.{Kind, inode, block, name_length, declared_size, record_size, name_good, inode_rule, previous_rule, block_rule, inode_rules, block_rules}
use Rattle.format.specs.Record.{check_right, well_formed, acceptable}
use Rattle.format.specs.AreaHeader.{magics_right, valid_header, is_file_area}
use Rattle.format.specs.Encoding.{inode_front, block_front, sealed, inode_bytes, block_bytes, area_header}
use Rattle.format.specs.Reading.{Placed, skip, parts, placed, area_parts, area_records}
use Rattle.volume.specs.Lists.{keep, all, same}
use Rattle.volume_laws.specs.Tests.{true→T, T→true, and_T, implies_T}
use Rattle.volume_laws.specs.Lists.{all_mem}
use Rattle.calls.specs.Areas.{area_bytes, file_areas}
use Rattle.calls.specs.Mount.{records_of}
use Rattle.calls.specs.declared.Descriptor.{Descriptor}
use Rattle.bursts.specs.Words.{bit_at, altered_bits, covered_header, IsKind, is_inode, is_block}
use Rattle.bursts.specs.Decide.{below, alters_only, are_octets, is_burst}
use Rattle.bursts.proofs.Decide.{below_at, are_octets_lem, is_sure_lem}
use Rattle.demand3.specs.Words.{IsRecord, touched, Demand3}
use Rattle.demand3.specs.Example.{areas, image, newer_lost}
use Rattle.demand3.proofs.Example.{newer_damaged}
use Rattle.demand3_bursts.specs.Start.{rest_at, SurelyCaught, AllSure, NoneBehind}
use Rattle.demand3_bursts.proofs.Start.{demand3_sure}
use Rattle.demand3_bursts.specs.Example.{holder, holder_lost, Behind}

-- the record is no block, and its altered bits are among the first 16 of an inode's id
is_sure : Descriptor → Placed → Bool
is_sure d r =
    not (acceptable block (rest_at image d r)) && (eqb (name_length (rest_at newer_lost d r)) (name_length (rest_at image d r))
    && is_burst (declared_size inode (rest_at image d r)) (rest_at image d r) (rest_at newer_lost d r) 32 32 0 18)

-- nothing acceptable starts behind its first byte
empty_behind : Descriptor → Placed → Bool
empty_behind d r = below (λ i. eqb (record_size (drop (r.place + 1 + i) (area_bytes newer_lost d))) 0) (length r.bytes - 1)

unharmed_or : Descriptor → Placed → Bool
unharmed_or d r = not (touched image newer_lost d r) || (is_sure d r && empty_behind d r)

record Computed : Type 0 where
  octets_before : are_octets image ≡ true
  octets_after : are_octets newer_lost ≡ true
  each : all (λ d. all (unharmed_or d) (records_of image d)) (file_areas image areas) ≡ true

computed : Computed
unfolding
    areas image newer_lost area_header inode_bytes block_bytes sealed inode_front block_front le16 le32 crc_bit crc_byte crc_over check is_directory_id
    is_file_id is_inode_id is_block_id record_size name_good inode_rule previous_rule block_rule inode_rules block_rules check_right well_formed acceptable
    magics_right valid_header is_file_area skip parts placed area_parts area_records keep all same file_areas touched bit_at below alters_only are_octets
    is_burst is_sure empty_behind unharmed_or
computed = record { octets_before = refl; octets_after = refl; each = refl }

at_record : (d : Descriptor) (r : Placed) → IsRecord image areas d r → touched image newer_lost d r ≡ true → T (is_sure d r) × T (empty_behind d r)
unfolding unharmed_or
at_record d r o t =
    let a = all_mem (λ d. all (unharmed_or d) (records_of image d)) (file_areas image areas) (true→T computed.each) o.0 in
    let b = all_mem (unharmed_or d) (records_of image d) a o.1 in
    and_T (is_sure d r) (empty_behind d r) (implies_T (touched image newer_lost d r) (is_sure d r && empty_behind d r) b (true→T t))

all_sure : AllSure image newer_lost areas
unfolding is_sure
all_sure d r o t k i a =
    let x = rest_at image d r in
    let y = rest_at newer_lost d r in
    let l = eqb (name_length y) (name_length x) in
    let b = is_burst (declared_size inode x) x y 32 32 0 18 in
    let c = and_T (not (acceptable block x)) (l && b) (at_record d r o t).0 in
    let e = and_T l b c.1 in
    of_kind k i a c.0 (T→true e.0) (T→true e.1)
  where
    of_kind : (k : Kind) → IsKind k → acceptable k (rest_at image d r) ≡ true → T (not (acceptable block (rest_at image d r)))
        → eqb (name_length (rest_at newer_lost d r)) (name_length (rest_at image d r)) ≡ true
        → is_burst (declared_size inode (rest_at image d r)) (rest_at image d r) (rest_at newer_lost d r) 32 32 0 18 ≡ true
        → SurelyCaught k (rest_at image d r) (rest_at newer_lost d r)
    of_kind k is_inode a n l b = record {
      same_length = eqb-true _ _ l;
      sure = is_sure_lem inode (declared_size inode (rest_at image d r)) (rest_at image d r) (rest_at newer_lost d r) 32 32 0 18 covered_header b;
    }
    of_kind k is_block a n l b = absurd (T_not (acceptable block (rest_at image d r)) n (true→T a))

none_behind : NoneBehind image newer_lost areas
unfolding empty_behind
none_behind d r o t j w n =
    let i = j - (r.place + 1) in
    let q : r.place + 1 + i ≡ j = omega (arith, w.0) in
    let e = below_at (λ i. eqb (record_size (drop (r.place + 1 + i) (area_bytes newer_lost d))) 0) (length r.bytes - 1)
    (T→true (at_record d r o t).1) i (omega (arith, w.0, w.1)) in
    rw q at (eqb-true (record_size (drop (r.place + 1 + i) (area_bytes newer_lost d))) 0 e)

-- so demand 3 holds of it, and nothing was assumed of the record's own start
pub example : Demand3 image newer_lost areas
example =
    demand3_sure image newer_lost areas
    (record {
      bytes_before_lem = are_octets_lem image computed.octets_before;
      bytes_after = are_octets_lem newer_lost computed.octets_after;
      one_length = newer_damaged.one_length;
      mounts = newer_damaged.mounts;
      clean = newer_damaged.clean;
      inside = newer_damaged.inside;
      all_sure = all_sure;
      none_behind = none_behind;
    })

-- ---- what is left must be assumed

pub behind : Behind
unfolding
    holder holder_lost inode_bytes block_bytes sealed inode_front block_front le16 le32 crc_bit crc_byte crc_over check is_directory_id is_file_id is_inode_id
    is_block_id record_size name_good inode_rule previous_rule block_rule inode_rules block_rules check_right well_formed acceptable bit_at altered_bits
behind = record { before = refl; one_bit = refl; at_start = refl; at_data = refl }
