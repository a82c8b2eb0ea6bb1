-- Trees by computation: document 01's undamaged area, a fresh pair, and one volume with all that T-07 speaks of but the depth.
use Rattle.std.specs.Prelude.{refl}
use Rattle.format.specs.Bytes.{le16, le32}
use Rattle.format.specs.Crc.{crc_bit, crc_byte, crc_over, check}
use Rattle.format.specs.Ids.{is_directory_id, is_file_id, is_inode_id, is_block_id}
use Rattle.format.specs.Record.{record_size, name_good, inode_rule, previous_rule, block_rule, inode_rules, block_rules, check_right, well_formed, acceptable}
use Rattle.format.specs.AreaHeader.{magics_right, valid_header, is_scratch, is_file_area}
use Rattle.format.specs.Encoding.{inode_front, block_front, sealed, inode_bytes, block_bytes, area_header}
use Rattle.format.specs.Reading.{skip, parts, placed, area_parts, area_records}
use Rattle.volume.specs.Lists.{keep, all, same, once, only, insert, sort, joined}
use Rattle.volume.specs.Counting.{volume_of, versions, newest, counting, ids_of, agree, all_agree}
use Rattle.volume.specs.Fate.{ascend, climb, fate_of}
use Rattle.volume.specs.Contents.{owns, owned, unnamed, last_block, chain_back, file_blocks, text_of}
use Rattle.volume.specs.Listing.{bytes_before, show_entry, digits_within, decimal, line_of, name_of, comes_before, is_live_child, entries_of, show_directory, tree_lines, words_of, tree_text}
use Rattle.calls.specs.Areas.{good_area, disjoint, all_disjoint, good_areas, file_areas, scratch_areas}
use Rattle.calls.specs.Refusal.{first_refusal}
use Rattle.calls.specs.Mount.{records_in, accepted_records, volume, bad_description, shared_area_id, wrong_areas, short_scratch, too_many_ids, no_root}
use Rattle.calls.specs.Mount.{mount_checks, mount_number}
use Rattle.calls.specs.Tree.{attempt_tree, tree_answer, in_front, buffer_with}
use Rattle.tree_told.specs.Example.{holding, pair, bench, fresh, mixed, Computed}

pub computed : Computed
unfolding
    holding pair bench fresh mixed area_header inode_bytes block_bytes sealed inode_front block_front le16 le32 crc_bit crc_byte crc_over check is_directory_id
    is_file_id is_inode_id is_block_id record_size name_good inode_rule previous_rule block_rule inode_rules block_rules check_right well_formed acceptable magics_right
    valid_header is_scratch is_file_area skip parts placed area_parts area_records keep all same once only insert sort joined volume_of versions newest counting
    ids_of agree all_agree ascend climb fate_of owns owned unnamed last_block chain_back file_blocks text_of bytes_before show_entry digits_within decimal line_of
    name_of comes_before is_live_child entries_of show_directory tree_lines words_of tree_text good_area disjoint all_disjoint good_areas file_areas scratch_areas
    first_refusal records_in accepted_records volume bad_description shared_area_id wrong_areas short_scratch too_many_ids no_root mount_checks mount_number attempt_tree
    tree_answer in_front buffer_with
computed = record {
  bench_mounts = refl;
  bench_tree = refl;
  fresh_mounts = refl;
  fresh_tree = refl;
  mixed_mounts = refl;
  mixed_tree = refl;
  cut_short = refl;
  cut_empty = refl;
  longer = refl;
  shorter = refl;
  whole = refl;
}
