-- What T-05 says of some small volumes: each field is an instance of the field of a theorem that its comment names, or of a sentence of T-05, by
-- computation. Each edit of a definition in tests/definitions that names this crate makes one of them false, and with it the theorem.
use Rattle.std.specs.Prelude.{ℕ, ◌≡◌, refl, [], ◌∷◌, ◌++◌, map, drop, replicate}
use Rattle.format.specs.Bytes.{Bytes, le16, le32}
use Rattle.format.specs.Crc.{crc_bit, crc_byte, crc_over, check}
use Rattle.format.specs.Ids.{NONE, is_directory_id, is_file_id, is_inode_id, is_block_id}
use Rattle.format.specs.Record.{record_sequence, data_length, record_size, name_good, inode_rule, previous_rule, block_rule, inode_rules, block_rules, check_right, well_formed, acceptable}
use Rattle.format.specs.AreaHeader.{magics_right, valid_header, is_scratch, is_file_area}
use Rattle.format.specs.Encoding.{inode_front, block_front, sealed, inode_bytes, block_bytes, area_header}
use Rattle.format.specs.Reading.{skip, parts, placed, erased_end, free_size, damaged_bytes, damaged, area_parts, area_records, area_damage, area_free}
use Rattle.format.specs.Reading.{area_clean}
use Rattle.volume.specs.Lists.{keep, all, same, once, only}
use Rattle.volume.specs.Counting.{volume_of, versions, newest, counting, ids_of, agree, all_agree}
use Rattle.volume.specs.Fate.{ascend, climb, fate_of}
use Rattle.volume.specs.Path.{split_byte, segments, good_segment, good_segments, is_absolute, absolute_names, good_absolute, good_path, path_names}
use Rattle.volume.specs.Tree.{is_entry, is_child, children, walk, lookup_names}
use Rattle.volume.specs.Contents.{owns, owned, unnamed, last_block, chain_back, file_blocks}
use Rattle.calls.specs.Image.{put}
use Rattle.calls.specs.Areas.{good_area, disjoint, all_disjoint, good_areas, file_areas, scratch_areas}
use Rattle.calls.specs.Refusal.{first_refusal}
use Rattle.calls.specs.Mount.{records_in, accepted_records, volume, bad_description, shared_area_id, wrong_areas, short_scratch, too_many_ids, no_root}
use Rattle.calls.specs.Mount.{mount_checks, mount_number}
use Rattle.calls.specs.Storing.{spaces, first_fit, place_all, store_all, is_among}
use Rattle.calls.specs.Attempt.{attempt_at}
use Rattle.calls.specs.Overwrite.{holds_byte, changes_from, changes, new_version, overwrite_plan, overwrite_to, overwriting, overwrite_of, image_overwritten}
use Rattle.calls.specs.Mount.{bytes_of, records_of}
use Rattle.calls.specs.Read.{given, read_given, give, give_blocks}
use Rattle.volume.specs.View.{by_bytes}
use Rattle.volume.specs.Contents.{text_of, headers_from}
use Rattle.case_volumes.specs.Volumes.{holding, area₀, area₁, two, three, file, a, b, slash, top, one_byte, twins}
use Rattle.case_volumes.specs.Volumes.{logged, xy, xyz, inside, across, whole_block, two_bytes, long}

-- the number of an overwrite of a
abbrev logged_overwrite : ℕ → Bytes → ℕ
logged_overwrite offset bytes = overwrite_of logged three [] (slash a) offset bytes

pub record OverwriteCases : Type 0 where
  -- Exactly.overwrite, "refused as append is": 8 for one byte over 8,192, before 9; 10; 11 for a directory; "13 too", before 14
  pub overwrite_refused_as_append : overwrite_of logged three [] (slash (0x63 ∷ [])) 0 (replicate 8193 0)
      ∷ overwrite_of logged three [] (slash (0x63 ∷ [])) 0 xy ∷ overwrite_of twins two [] (slash a) 0 xy ∷ overwrite_of logged three [] top 0 xy
      ∷ overwrite_of logged three [] (slash b) 0xffffffff xy ∷ []
      ≡ 8 ∷ 9 ∷ 10 ∷ 11 ∷ 13 ∷ []
  -- "an offset or an end past the size is 14": an end alone, before 16 too; an offset, of 0 bytes too
  pub overwrite_end_past_size : overwrite_of one_byte two [] (slash a) 0 xy ∷ logged_overwrite 7 xy ∷ [] ≡ 14 ∷ 14 ∷ []
  pub overwrite_offset_past_size : logged_overwrite 9 [] ∷ logged_overwrite 0xffffffff [] ∷ logged_overwrite 0xffffffff xy ∷ [] ≡ 14 ∷ 14 ∷ 14 ∷ []
  -- "such a block at sequence ffffffff is 16": not one beside the range, but the second of two; "16 comes before 15"
  pub overwrite_last_sequence : logged_overwrite 4 xyz ∷ logged_overwrite 6 xy ∷ overwrite_of (long 0xffffffff ++ holding 0 255 []) two [] (slash a) 0 xy ∷ []
      ≡ 0 ∷ 16 ∷ 16 ∷ []
  -- "all or none": there is room for the first of two blocks. The number and the image
  pub overwrite_all_or_none : overwrite_of two_bytes two [] (slash a) 0 xy ∷ image_overwritten two_bytes two [] (slash a) 0 xy ≡ 15 ∷ two_bytes
  -- "0 bytes write nothing", within the size and at it
  pub overwrite_of_nothing : logged_overwrite 3 [] ∷ logged_overwrite 8 [] ∷ image_overwritten logged three [] (slash a) 3 [] ≡ 0 ∷ 0 ∷ logged
  -- the new version of a block: "sequence plus one", the same "length", and "its changed data"
  pub overwrite_new_version : map (λ r. record_sequence r ∷ data_length r ∷ by_bytes.text r) (drop 4 (bytes_of (records_of inside area₀)))
      ≡ (1 ∷ 4 ∷ 0x61 ∷ 0x78 ∷ 0x79 ∷ 0x64 ∷ []) ∷ []
  -- "The range then reads as the new data, every other byte as before", by as many headers
  pub overwrite_reads : read_given across three file 0 9 ∷ read_given whole_block three file 4 9 ∷ []
      ≡ given (0x61 ∷ 0x62 ∷ 0x78 ∷ 0x79 ∷ 0x7a ∷ 0x66 ∷ 0x67 ∷ 0x68 ∷ []) 3
      ∷ given (0x78 ∷ 0x79 ∷ 0x7a ∷ 0x68 ∷ []) 2
      ∷ []
  -- "in file order": the first block goes to the first area, which then has no room for the second
  pub overwrite_in_order : drop 4 (bytes_of (records_of across area₀)) ++ drop 3 (bytes_of (records_of across area₁))
      ≡ block_bytes 0x80000000 1 file NONE (0x61 ∷ 0x62 ∷ xy) ∷ block_bytes 0x80000001 8 file 0x80000000 (0x7a ∷ 0x66 ∷ 0x67 ∷ []) ∷ []
  -- a whole file
  pub overwrite_whole_file : read_given (image_overwritten one_byte two [] (slash a) 0 (0x6b ∷ [])) two file 0 9 ≡ given (0x6b ∷ []) 1
  -- a block longer than the greatest block size keeps its length
  pub overwrite_long_block : bytes_of (records_of (image_overwritten (long 0 ++ (holding 1 1 [] ++ holding 0 255 [])) three [] (slash a) 43 xy) area₁)
      ≡ block_bytes 0x80000000 1 file NONE (replicate 43 0x6f ++ xy) ∷ []

pub overwrite_cases : OverwriteCases
unfolding
    logged inside across whole_block two_bytes long holds_byte changes_from changes new_version overwrite_plan overwrite_to overwriting overwrite_of image_overwritten
    holding one_byte twins read_given give give_blocks text_of headers_from area_header inode_bytes block_bytes sealed inode_front block_front le16 le32 crc_bit crc_byte crc_over check is_directory_id is_file_id
    is_inode_id is_block_id record_size name_good inode_rule previous_rule block_rule inode_rules block_rules check_right well_formed acceptable magics_right
    valid_header is_scratch is_file_area skip parts placed erased_end free_size damaged_bytes damaged area_parts area_records area_damage area_free area_clean
    keep all same once only volume_of versions newest counting ids_of agree all_agree ascend climb fate_of split_byte segments
    good_segment good_segments is_absolute absolute_names good_absolute good_path path_names is_entry is_child children walk lookup_names owns owned unnamed
    last_block chain_back file_blocks put good_area disjoint all_disjoint good_areas file_areas scratch_areas first_refusal records_in accepted_records volume
    bad_description shared_area_id wrong_areas short_scratch too_many_ids no_root mount_checks mount_number spaces first_fit place_all store_all is_among attempt_at
overwrite_cases = record {
  overwrite_refused_as_append = refl;
  overwrite_end_past_size = refl;
  overwrite_offset_past_size = refl;
  overwrite_last_sequence = refl;
  overwrite_all_or_none = refl;
  overwrite_of_nothing = refl;
  overwrite_new_version = refl;
  overwrite_reads = refl;
  overwrite_in_order = refl;
  overwrite_whole_file = refl;
  overwrite_long_block = refl;
}
