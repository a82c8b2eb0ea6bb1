-- A volume of two file areas, the one that stands second in the image first in the list, by computation.
use Rattle.std.specs.Prelude.{refl}
use mathlib.Core.List.Memᴰ
use Rattle.std.proofs.Common.{arith}
use Rattle.format.specs.Bytes.{le16, le32}
use Rattle.format.specs.Crc.{crc_bit, crc_byte, crc_over, check}
use Rattle.format.specs.Ids.{is_directory_id, is_file_id, is_inode_id, is_block_id}
use Rattle.format.specs.Record.{record_size, name_good, inode_rule, previous_rule, block_rule, inode_rules, block_rules, check_right, well_formed, acceptable}
use Rattle.format.specs.AreaHeader.{magics_right, valid_header, is_scratch, is_file_area}
use Rattle.format.specs.Encoding.{inode_front, sealed, inode_bytes, area_header}
use Rattle.format.specs.Reading.{skip, parts, placed, erased_end, free_size, damaged_bytes, damaged, total_size, first_stretch}
use Rattle.format.specs.Reading.{area_parts, area_records, area_damage, area_free}
use Rattle.volume.specs.Lists.{keep, all, same, once, first}
use Rattle.volume.specs.Counting.{volume_of, versions, newest, counting, ids_of, agree, all_agree}
use Rattle.calls.specs.Areas.{area_bytes, good_area, disjoint, all_disjoint, good_areas, file_areas, scratch_areas}
use Rattle.calls.specs.Refusal.{first_refusal}
use Rattle.calls.specs.Mount.{records_in, accepted_records, volume, bad_description, shared_area_id, wrong_areas, short_scratch, too_many_ids, no_root}
use Rattle.calls.specs.Mount.{mount_checks, mount_number}
use Rattle.calls.specs.Report.{damage_in, mounted_report, report_of}
use Rattle.damage_told.specs.Words.{InRecord, IsDamaged}
use Rattle.damage_told.proofs.Told.{area_told}
use Rattle.damage_told.specs.Example.{holding, image, lower, upper, Computed}

pub computed : Computed
unfolding
    holding image area_header inode_bytes sealed inode_front le16 le32 crc_bit crc_byte crc_over check is_directory_id is_file_id is_inode_id is_block_id record_size
    name_good inode_rule previous_rule block_rule inode_rules block_rules check_right well_formed acceptable magics_right valid_header is_scratch is_file_area skip
    parts placed erased_end free_size damaged_bytes damaged total_size first_stretch area_parts area_records area_damage area_free keep all same once first
    volume_of versions newest counting ids_of agree all_agree good_area disjoint all_disjoint good_areas file_areas scratch_areas first_refusal records_in
    accepted_records volume bad_description shared_area_id wrong_areas short_scratch too_many_ids no_root mount_checks mount_number damage_in mounted_report report_of
computed = record {
  mounts = refl;
  offset = refl;
  size = refl;
  stretches = refl;
  skipped = refl;
  in_upper = refl;
  in_lower = refl;
  free = refl;
  long = refl;
  also_long = refl;
}

-- the stretch that is told is not the last of its area: a byte behind it is damaged
pub not_the_last : IsDamaged (area_bytes image upper) 45
not_the_last =
    ((area_told (area_bytes image upper) (omega (arith, computed.long))
    ).runs (record { place = 45; size = 2 }) (rw computed.in_upper (Memᴰ.tail (Memᴰ.head refl)))).all 45 (omega arith, omega arith)

-- it is not the lowest in the image: in the other area a byte is damaged, which is at 24 there
pub not_the_lowest : IsDamaged (area_bytes image lower) 24
not_the_lowest =
    ((area_told (area_bytes image lower) (omega (arith, computed.also_long))
    ).runs (record { place = 24; size = 1 }) (rw computed.in_lower (Memᴰ.head refl))).all 24 (omega arith, omega arith)

-- a byte of free space is in no record either, and is not damaged
pub free_not_damaged : (¬ InRecord (area_bytes image upper) 47) × ¬ IsDamaged (area_bytes image upper) 47
free_not_damaged = (
  ((area_told (area_bytes image upper) (omega (arith, computed.long))).free 47 (omega (arith, computed.free)) (omega (arith, computed.long))).1,
  λ d. omega (arith, d.1, computed.free),
)
