-- Two damaged images to which demand 3 applies: a file whose path still finds it, and the same file with its path ambiguous.
use Rattle.std.specs.Prelude.{◌≡◌, refl, Bool, true, false, cond, [], ◌∷◌}
use Rattle.std.proofs.Common.{◌∙◌}
use Rattle.format.specs.Bytes.{Bytes, le16, le32}
use Rattle.format.specs.Crc.{crc_bit, crc_byte, crc_over, check}
use Rattle.format.specs.Ids.{is_directory_id, is_file_id, is_inode_id, is_block_id}
use Rattle.format.specs.Record.{record_size, name_good, inode_rule, previous_rule, block_rule, inode_rules, block_rules, check_right, well_formed}
use Rattle.format.specs.Record.{acceptable}
use Rattle.format.specs.AreaHeader.{magics_right, valid_header, is_scratch, is_file_area}
use Rattle.format.specs.Encoding.{inode_front, block_front, sealed, inode_bytes, block_bytes, area_header}
use Rattle.format.specs.Reading.{skip, parts, placed, erased_end, damaged_bytes, damaged, area_parts, area_records, area_damage, area_clean}
use Rattle.volume.specs.Lists.{keep, all, same, once, only}
use Rattle.volume.specs.View.{by_bytes}
use Rattle.volume.specs.Counting.{volume_of, versions, newest, counting, ids_of, agree, all_agree}
use Rattle.volume.specs.Fate.{ascend, climb, fate_of, lineage, names_of}
use Rattle.volume.specs.Path.{split_byte, segments, good_segment, good_segments, is_absolute, absolute_names, good_absolute, good_path, path_names}
use Rattle.volume.specs.Tree.{found, absent, is_entry, is_child, children}
use Rattle.volume.specs.Contents.{owns, owned, unnamed, last_block, chain_back, file_blocks, text_of, headers_from}
use Rattle.calls.specs.Areas.{good_area, disjoint, all_disjoint, good_areas, file_areas, scratch_areas}
use Rattle.calls.specs.Refusal.{first_refusal}
use Rattle.calls.specs.Mount.{records_in, accepted_records, volume, bad_description, shared_area_id, wrong_areas, short_scratch, too_many_ids}
use Rattle.calls.specs.Mount.{no_root, mount_checks, mount_number}
use Rattle.calls.specs.Lookup.{resolve}
use Rattle.calls.specs.Read.{given, give_blocks, give}
use Rattle.demand3.specs.Words.{touched, steps_to, crowded, ambiguous, Damage, FileKept}
use Rattle.demand3.proofs.Demand3.{demand3}
use Rattle.demand3.specs.Decide.{below, is_inside, outside, only_inside, all_clean, emptied, none_new, is_damage, is_spared, is_unharmed}
use Rattle.demand3.proofs.Decide.{damage, unharmed}
use Rattle.demand3.specs.Example.{areas, image, newer_lost, older_lost, file, path}

-- what is computed
record Computed (ys : Bytes) (lost : Bool) : Type 0 where
  damaged_image : is_damage image ys areas ≡ true
  harmless : is_unharmed image ys areas file ≡ true
  good : good_path [] path ≡ true
  named : path_names [] path ≡ names_of by_bytes (volume image areas) file
  read : give (volume image areas) file 0 10 ≡ given (0x6f ∷ 0x6b ∷ []) 1
  crowd : ambiguous (volume image areas) (volume ys areas) file ≡ lost

computed : Computed newer_lost true × Computed older_lost false
unfolding
    areas image newer_lost older_lost area_header inode_bytes block_bytes sealed inode_front block_front le16 le32 crc_bit crc_byte crc_over check
    is_directory_id is_file_id is_inode_id is_block_id record_size name_good inode_rule previous_rule block_rule inode_rules block_rules check_right
    well_formed acceptable magics_right valid_header is_scratch is_file_area skip parts placed area_parts area_records keep all same once volume_of
    versions newest counting ids_of agree all_agree good_area disjoint all_disjoint good_areas file_areas scratch_areas first_refusal records_in
    accepted_records volume bad_description shared_area_id wrong_areas short_scratch too_many_ids no_root mount_checks mount_number erased_end
    damaged_bytes damaged area_damage area_clean ascend climb fate_of lineage names_of split_byte segments good_segment good_segments is_absolute
    absolute_names good_absolute good_path path_names is_entry is_child children owns owned unnamed last_block chain_back file_blocks text_of
    headers_from give_blocks give touched steps_to crowded ambiguous below is_inside outside only_inside all_clean emptied none_new is_damage
    is_spared is_unharmed only
computed = (
  record { damaged_image = refl; harmless = refl; good = refl; named = refl; read = refl; crowd = refl },
  record { damaged_image = refl; harmless = refl; good = refl; named = refl; read = refl; crowd = refl },
)

pub newer_damaged : Damage image newer_lost areas
newer_damaged = damage image newer_lost areas computed.0.damaged_image

module _ (ys : Bytes) (lost : Bool) (c : Computed ys lost) where
  kept : FileKept image ys areas file
  kept = (demand3 image ys areas (damage image ys areas c.damaged_image)).files file (unharmed image ys areas file c.harmless)

  -- the file reads as before, and its path is refused as ambiguous or finds it
  outcome : (give (volume ys areas) file 0 10 ≡ given (0x6f ∷ 0x6b ∷ []) 1) × (resolve ys areas [] path ≡ cond lost (absent 10) (found file))
  outcome = (kept.reads 0 10 ∙ c.read, kept.path [] path (record { good = c.good; named = c.named }) ∙ rw c.crowd)

-- with its newer record lost, the other file is named a again: the name is there twice
pub example_ambiguous : resolve newer_lost areas [] path ≡ absent 10
example_ambiguous = (outcome newer_lost true computed.0).1

-- with its older record lost, nothing changes
pub example_found : resolve older_lost areas [] path ≡ found file
example_found = (outcome older_lost false computed.1).1
