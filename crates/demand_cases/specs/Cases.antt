-- What the demands say of some small volumes: each field is an instance of the field of a theorem that its comment names, or of a sentence of
-- documents 01 and 02, by computation. Each edit of a definition in tests/definitions, which would bring stale data back or break a promise, makes
-- one of them false, and with it the theorem.
use Rattle.std.specs.Prelude.{ℕ, ◌+◌, ◌*◌, ◌≡◌, refl, true, false, List, [], ◌∷◌, ◌++◌, length, take, set, replicate, leb}
use Rattle.std.proofs.Math.Option.{Option, some}
use Rattle.format.specs.Bytes.{Bytes, le16, le32}
use Rattle.format.specs.Crc.{crc_bit, crc_byte, crc_over, check}
use Rattle.format.specs.Ids.{is_directory_id, is_file_id, is_inode_id, is_block_id}
use Rattle.format.specs.Record.{block, record_size, name_good, inode_rule, previous_rule, block_rule, inode_rules, block_rules, check_right, well_formed, acceptable}
use Rattle.format.specs.AreaHeader.{area_header_size, magics_right, valid_header, is_scratch, is_file_area}
use Rattle.format.specs.Encoding.{inode_front, block_front, sealed, inode_bytes, block_bytes, area_header}
use Rattle.format.specs.Reading.{skip, parts, placed, erased_end, free_size, damaged_bytes, damaged, total_size, first_stretch, area_parts, area_records, area_damage, area_free}
use Rattle.format.specs.Reading.{area_clean}
use Rattle.format.specs.BlockSize.{greatest_block}
use Rattle.volume.specs.Lists.{keep, all, first, same, once, only}
use Rattle.volume.specs.Counting.{volume_of, versions, newest, counting, ids_of, agree, all_agree}
use Rattle.volume.specs.Fate.{ascend, climb, fate_of, block_dead}
use Rattle.volume.specs.Path.{split_byte, segments, good_segment, good_segments, is_absolute, absolute_names, good_absolute, good_path, path_names}
use Rattle.volume.specs.Tree.{is_entry, is_child, children, walk, lookup_names}
use Rattle.volume.specs.Contents.{owns, owned, unnamed, last_block, chain_back, file_blocks}
use Rattle.calls.specs.Image.{put}
use Rattle.calls.specs.Areas.{good_area, disjoint, all_disjoint, good_areas, file_areas, scratch_areas}
use Rattle.calls.specs.Refusal.{first_refusal}
use Rattle.calls.specs.Mount.{records_in, accepted_records, volume, bad_description, shared_area_id, wrong_areas, short_scratch, too_many_ids, no_root}
use Rattle.calls.specs.Mount.{mount_checks, mount_number}
use Rattle.calls.specs.Storing.{spaces, first_fit, place_all, store_all, named_by_inodes, named_by_blocks, named_ids, is_among, unused_from, unused_id}
use Rattle.calls.specs.Format.{empty_area, format_number, longest_length, numbered, labelled, blanked, rooted, formatted, image_formatted}
use Rattle.calls.specs.Attempt.{attempt_at}
use Rattle.calls.specs.Create.{last_name, names_before, first_id_of, new_id, new_inode, create_in, creating, create_of, image_created}
use Rattle.calls.specs.Append.{shortest_length, cut_into, pieces_of, block_records, new_blocks, append_to, appending, append_of, image_appended}
use Rattle.calls.specs.Rewrite.{rewritten, rewrite_plan, rewrite_number, image_rewritten}
use Rattle.calls.specs.Unlink.{deletion, unlink_one, unlinking, unlink_of, image_unlinked}
use Rattle.calls.specs.Rename.{moves_into_itself, move_number, moving, renaming, rename_of, image_renamed}
use Rattle.calls.specs.Collect.{eligible, precedes, unpreceded, source_of, is_other, records_elsewhere, counts, first_places, drops_block, names_inode}
use Rattle.calls.specs.Collect.{drops_inode, drops, copies, is_blank, reset_stores, ready_stores, record_stores, next_count, collect_stores, collected}
use Rattle.calls.specs.Collect.{collecting, collect_of, image_collected}
use Rattle.calls.specs.Areas.{area_bytes}
use Rattle.calls.specs.Mount.{bytes_of, records_of}
use Rattle.calls.specs.Report.{damage_in, mounted_report, report_of}
use Rattle.calls.specs.AreaReport.{kind_number, if_valid, area_report, area_report_number, area_report_of}
use Rattle.calls.specs.Lookup.{resolve}
use Rattle.calls.specs.declared.Descriptor.{Descriptor}
use Rattle.calls.specs.Read.{given, read_given, give, give_blocks}
use Rattle.volume.specs.View.{by_bytes}
use Rattle.volume.specs.Counting.{inode_of}
use Rattle.volume.specs.Fate.{orphan, live_ids, lineage}
use Rattle.volume.specs.Tree.{found, absent}
use Rattle.volume.specs.Contents.{text_of, headers_from}
use Rattle.demand_cases.specs.Story.{directory, file_in_it, file_renamed, text, image₀, image₁, image₂, image₃, image₄, image₅, image₆, image₇}
use Rattle.case_volumes.specs.Volumes.{holding, area₀, area₁, area₂, area₃, two, three, root_record, file, other, a, b, slash}
use Rattle.case_volumes.specs.Volumes.{one_byte, deleted, torn, orphaned, older_last, used_scratch, clashing, two_files, first_hit, twins, looping}
use Rattle.case_volumes.specs.Volumes.{reserved_inode, reserved_area, reserved_scratch, counted, littered}
use Rattle.case_volumes.specs.Volumes.{top, path_d, path_e, path_a, nested, moved, renamed, reused, hit}

-- the number of a rename in the tree of "/d/e/a"
abbrev nested_rename : Bytes → Bytes → ℕ
nested_rename old new = rename_of nested two [] old new

-- the source among areas of these counts
abbrev source_in : List ℕ → Option Descriptor
source_in counts = source_of (counted counts) (take (length counts) (area₀ ∷ area₁ ∷ area₂ ∷ [])) area₃

pub record Cases : Type 0 where
  -- AfterFormat.records
  pub format_writes_the_root : accepted_records (image_formatted (replicate 320 0) two) two ≡ root_record ∷ []
  -- AreasKept.reads: the untouched records, at their old places
  pub untouched_read : bytes_of (records_of first_hit area₀) ≡ root_record ∷ inode_bytes other 0 0 b ∷ []
  -- T-11, `caught`: one bit of the check field
  pub altered_check_caught : record_size (set (inode_bytes file 0 0 a) 19 0xc4) ≡ 0
  -- Greatest.top
  pub greatest_counts : inode_of by_bytes (volume older_last two) file ≡ some (inode_bytes file 1 0 a)
  -- "no missing or looping parent"; were it live, FileKept.path would have it found at the names above it, which lead nowhere
  pub loop_orphan : fate_of by_bytes (volume looping two) file ≡ orphan
  -- FileKept.path: "refused as ambiguous exactly when .. a name on it belongs to two or more live children"
  pub twins_ambiguous : resolve twins two [] (slash a) ≡ absent 10
  -- AfterAppend.reads-both: "the file reads as its old contents and then the new data"
  pub append_reads : read_given (image_appended one_byte two [] (slash a) (0x6b ∷ [])) two file 0 9 ≡ given (0x6f ∷ 0x6b ∷ []) 2
  -- AfterUnlink.path-lost
  pub unlink_loses : resolve (image_unlinked one_byte two [] (slash a)) two [] (slash a) ≡ absent 9
  -- AfterCreate.went, RecordFits.clean: "a damaged area waits for collection"
  pub create_leaves_torn : area_bytes (image_created torn three [] (slash a) 1) area₀ ≡ area_bytes torn area₀
  -- AfterCreate.unused: the directory id 1 is named as a parent
  pub create_takes_unnamed : (create_of orphaned two [] (slash b) 0).id ≡ 2
  -- AfterCollect.now-scratch
  pub collect_frees : scratch_areas (image_collected one_byte two) two ≡ area₀ ∷ []
  -- AfterCollect.no-new-life
  pub collect_keeps_deleted : resolve (image_collected deleted three) three [] (slash a) ≡ absent 9
  -- AfterCollect.paths: scratch, which is erased, held nothing that counts
  pub collect_of_used_scratch : resolve (image_collected used_scratch two) two [] (slash a) ≡ resolve used_scratch two [] (slash a)
  -- AfterCollect.paths: where versions clash, which of them counts would change with the areas' order
  pub collect_of_clashing : resolve (image_collected clashing three) three [] (slash a) ≡ resolve clashing three [] (slash a)
  -- TwoGreatest.two-fit, of an odd length: rounded up, two would not fit either
  pub two_greatest_fit : leb (area_header_size + 2 * (block.header_size + greatest_block 129)) 129 ≡ true
  -- T-14: "Records and area headers whose reserved byte isn't 0 are no longer acceptable or valid"
  pub reserved_inode_skipped : record_size reserved_inode ≡ 0
  pub reserved_area_passed_over : file_areas reserved_area two ≡ []
  pub reserved_scratch_passed_over : scratch_areas reserved_scratch two ≡ []
  -- T-14, IsSource: 255 precedes 0, and 254 both; of 0 and 128 neither precedes the other; of equal counts neither
  pub unpreceded_source : source_in (1 ∷ 0 ∷ []) ∷ source_in (0 ∷ 255 ∷ []) ∷ source_in (255 ∷ 0 ∷ []) ∷ source_in (0 ∷ 255 ∷ 254 ∷ []) ∷ []
      ≡ some area₁ ∷ some area₁ ∷ some area₀ ∷ some area₂ ∷ []
  pub half_way : precedes 0 128 ∷ precedes 128 0 ∷ precedes 7 7 ∷ precedes 0 127 ∷ precedes 127 0 ∷ [] ≡ false ∷ false ∷ false ∷ true ∷ false ∷ []
  -- of 0, 100 and 200 each is preceded: the first
  pub each_preceded : source_in (0 ∷ 100 ∷ 200 ∷ []) ∷ source_in (100 ∷ 200 ∷ 0 ∷ []) ∷ [] ≡ some area₀ ∷ some area₀ ∷ []
  -- T-08, report-told: "the first of these over the file areas in descriptor order, as an offset in the image"; scratch's is none of them
  pub first_damage : report_of littered three
      ≡ record { number = 0; inodes = 2; live = 2; stretches = 3; skipped = 10; first_offset = 44; first_length = 3 }
  pub first_by_descriptors : report_of littered (area₁ ∷ area₀ ∷ area₂ ∷ [])
      ≡ record { number = 0; inodes = 2; live = 2; stretches = 3; skipped = 10; first_offset = 184; first_length = 5 }
  -- damage in scratch and in an area that is passed over is none of it
  pub passed_over_unreported : report_of (set littered 182 1) three
      ≡ record { number = 0; inodes = 2; live = 2; stretches = 2; skipped = 5; first_offset = 44; first_length = 3 }
  -- T-08: the reading of an area, with its first stretch, its second, and a third, of which there is none; and of scratch
  pub area_read : area_report_of littered three 0 0 ∷ area_report_of littered three 0 1 ∷ area_report_of littered three 0 2 ∷ area_report_of littered three 2 0 ∷ []
      ≡ record { number = 0; kind = 1; id = 0; count = 0; records = 2; stretches = 2; skipped = 5; free = 90; offset = 44; length = 3 }
      ∷ record { number = 0; kind = 1; id = 0; count = 0; records = 2; stretches = 2; skipped = 5; free = 90; offset = 68; length = 2 }
      ∷ record { number = 0; kind = 1; id = 0; count = 0; records = 2; stretches = 2; skipped = 5; free = 90; offset = 0; length = 0 }
      ∷ record { number = 0; kind = 2; id = 255; count = 7; records = 0; stretches = 1; skipped = 7; free = 129; offset = 24; length = 7 }
      ∷ []
  -- an area that is passed over is read too, by a header of which nothing is told; the list has no fourth area
  pub passed_over_read : area_report_of (set littered 182 1) three 1 0
      ≡ record { number = 0; kind = 0; id = 0; count = 0; records = 0; stretches = 1; skipped = 5; free = 131; offset = 24; length = 5 }
  pub beyond_the_list : (area_report_of littered three 3 0).number ≡ 1
  -- T-01, AfterRename.found-at-new, old-gone and reads: the same id is found at the new path and nothing at the old one, and the file reads as before
  pub rename_found : resolve renamed two [] (slash b) ∷ resolve renamed two [] (slash a) ∷ [] ≡ found file ∷ absent 9 ∷ []
  pub rename_reads : read_given renamed two file 0 9 ≡ given (0x6f ∷ []) 1
  -- AfterRename.moved-paths: what is in a directory moves with it
  pub rename_moves_all : resolve moved two [] (slash b ++ slash a) ∷ resolve moved two [] path_a ∷ [] ≡ found file ∷ absent 9 ∷ []
  -- Exactly.rename: "A new path '/' is 8"
  pub rename_to_top : nested_rename path_d top ≡ 8
  -- 10 of the old path; of the new one 9, and 11 where its parent is a file
  pub rename_walks : rename_of twins two [] (slash a) (slash b) ∷ nested_rename path_a (slash a ++ slash b)
      ∷ rename_of two_files two [] (slash a) (slash b ++ slash a) ∷ []
      ≡ 10 ∷ 9 ∷ 11 ∷ []
  -- "The old path is walked first": 9 of the old path, where the new one alone is 11
  pub rename_old_first : nested_rename (slash b) (path_a ++ (slash a ++ slash b)) ≡ 9
  -- "the new name being there is 12", also where it is the present one; 18 is "checked after 12"
  pub rename_present : nested_rename path_e path_e ≡ 12
  pub rename_top_to_taken : nested_rename top path_d ≡ 12
  -- 18: the root; a directory below itself, and below one that is in it
  pub rename_top : nested_rename top (slash b) ≡ 18
  pub rename_below_itself : nested_rename path_d (path_d ++ slash b) ≡ 18
  pub rename_further_below : nested_rename path_d (path_e ++ slash b) ≡ 18
  -- "A damaged rename record may bring the old name back, or the answer 10": where a new file has that name
  pub damaged_rename : resolve (hit renamed) two [] (slash a) ∷ resolve (hit renamed) two [] (slash b) ∷ [] ≡ found file ∷ absent 9 ∷ []
  pub damaged_rename_ambiguous : resolve (hit reused) two [] (slash a) ≡ absent 10
  -- the hypotheses of each theorem can be met: format, a directory, a file in it, two bytes appended, the file renamed, the directory
  -- unlinked, a collection
  pub accepted : format_number image₀ two ∷ (create_of image₁ two [] directory 0).number ∷ (create_of image₂ two [] file_in_it 1).number
      ∷ append_of image₃ two [] file_in_it text ∷ rename_of image₄ two [] file_in_it file_renamed ∷ unlink_of image₅ two [] directory
      ∷ collect_of image₆ two ∷ mount_number image₇ two ∷ []
      ≡ replicate 8 0

pub cases : Cases
unfolding
    image₀ image₁ image₂ image₃ image₄ image₅ image₆ image₇ holding one_byte deleted torn orphaned older_last used_scratch clashing two_files first_hit twins looping reserved_inode reserved_area reserved_scratch counted resolve read_given give give_blocks text_of
    headers_from area_header inode_bytes block_bytes sealed inode_front block_front le16 le32 crc_bit crc_byte crc_over check is_directory_id is_file_id
    is_inode_id is_block_id record_size name_good inode_rule previous_rule block_rule inode_rules block_rules check_right well_formed acceptable magics_right
    valid_header is_scratch is_file_area skip parts placed erased_end free_size damaged_bytes damaged area_parts area_records area_damage area_free area_clean
    greatest_block keep all same once only volume_of versions newest counting ids_of agree all_agree ascend climb fate_of block_dead split_byte segments
    good_segment good_segments is_absolute absolute_names good_absolute good_path path_names is_entry is_child children walk lookup_names owns owned unnamed
    last_block chain_back file_blocks put good_area disjoint all_disjoint good_areas file_areas scratch_areas first_refusal records_in accepted_records volume
    bad_description shared_area_id wrong_areas short_scratch too_many_ids no_root mount_checks mount_number spaces first_fit place_all store_all named_by_inodes
    named_by_blocks named_ids is_among unused_from unused_id empty_area format_number longest_length numbered labelled blanked rooted formatted
    image_formatted attempt_at last_name names_before first_id_of new_id new_inode create_in creating create_of image_created shortest_length cut_into pieces_of
    block_records new_blocks append_to appending append_of image_appended deletion rewritten rewrite_plan rewrite_number image_rewritten unlink_one unlinking
    unlink_of image_unlinked eligible precedes unpreceded first source_of is_other records_elsewhere counts first_places drops_block names_inode drops_inode drops
    nested moved renamed reused lineage moves_into_itself move_number moving renaming rename_of image_renamed
    littered report_of mounted_report damage_in total_size first_stretch live_ids area_report_of area_report area_report_number kind_number if_valid
    copies is_blank reset_stores ready_stores record_stores next_count collect_stores collected collecting collect_of image_collected
cases = record {
  format_writes_the_root = refl;
  untouched_read = refl;
  altered_check_caught = refl;
  greatest_counts = refl;
  loop_orphan = refl;
  twins_ambiguous = refl;
  append_reads = refl;
  unlink_loses = refl;
  create_leaves_torn = refl;
  create_takes_unnamed = refl;
  collect_frees = refl;
  collect_keeps_deleted = refl;
  collect_of_used_scratch = refl;
  collect_of_clashing = refl;
  two_greatest_fit = refl;
  reserved_inode_skipped = refl;
  reserved_area_passed_over = refl;
  reserved_scratch_passed_over = refl;
  unpreceded_source = refl;
  half_way = refl;
  each_preceded = refl;
  first_damage = refl;
  first_by_descriptors = refl;
  passed_over_unreported = refl;
  area_read = refl;
  passed_over_read = refl;
  beyond_the_list = refl;
  rename_found = refl;
  rename_reads = refl;
  rename_moves_all = refl;
  rename_to_top = refl;
  rename_walks = refl;
  rename_old_first = refl;
  rename_present = refl;
  rename_top_to_taken = refl;
  rename_top = refl;
  rename_below_itself = refl;
  rename_further_below = refl;
  damaged_rename = refl;
  damaged_rename_ambiguous = refl;
  accepted = refl;
}
