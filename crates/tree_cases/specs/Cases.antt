-- What T-07 says of some small volumes: each field is an instance of one of its sentences, by computation. Each edit of a definition in
-- tests/definitions that names one of these fields makes it false.
use Rattle.std.specs.Prelude.{◌≡◌, refl, [], ◌∷◌, ◌++◌, map, replicate}
use Rattle.format.specs.Bytes.{Bytes, le16, le32}
use Rattle.format.specs.Crc.{crc_bit, crc_byte, crc_over, check}
use Rattle.format.specs.Ids.{is_directory_id, is_file_id, is_inode_id, is_block_id}
use Rattle.format.specs.Record.{record_size, name_good, inode_rule, previous_rule, block_rule, inode_rules, block_rules, check_right, well_formed, acceptable}
use Rattle.format.specs.AreaHeader.{magics_right, valid_header, is_scratch, is_file_area}
use Rattle.format.specs.Encoding.{inode_front, block_front, sealed, inode_bytes, block_bytes, area_header}
use Rattle.format.specs.Reading.{skip, parts, placed, area_parts, area_records}
use Rattle.volume.specs.Lists.{keep, all, insert, sort, joined, same, once, only}
use Rattle.volume.specs.View.{by_bytes}
use Rattle.volume.specs.Counting.{volume_of, versions, newest, counting, ids_of, agree, all_agree}
use Rattle.volume.specs.Fate.{ascend, climb, fate_of}
use Rattle.volume.specs.Contents.{owns, owned, unnamed, last_block, chain_back, file_blocks, text_of}
use Rattle.volume.specs.Listing.{shown, deeper, bytes_before, show_entry, digits_within, decimal, line_of, name_of, comes_before, is_live_child, entries_of}
use Rattle.volume.specs.Listing.{show_directory, tree_lines, words_of, line_text, tree_text}
use Rattle.calls.specs.Image.{put}
use Rattle.calls.specs.Areas.{good_area, disjoint, all_disjoint, good_areas, file_areas, scratch_areas}
use Rattle.calls.specs.Refusal.{first_refusal}
use Rattle.calls.specs.Attempt.{goes, refuses}
use Rattle.calls.specs.Mount.{records_in, accepted_records, volume, bad_description, shared_area_id, wrong_areas, short_scratch, too_many_ids, no_root}
use Rattle.calls.specs.Mount.{mount_checks, mount_number}
use Rattle.calls.specs.Format.{empty_area, format_number, longest_length, numbered, labelled, blanked, rooted, formatted, image_formatted}
use Rattle.calls.specs.Tree.{attempt_tree, tree_answer, in_front, buffer_with}
use Rattle.calls.specs.Program.{whole_areas, program_tree}
use Rattle.case_volumes.specs.Volumes.{holding, two, three, file, other, a, b, one_byte, deleted, orphaned, older_last, clashing, looping, nested, logged}
use Rattle.tree_cases.specs.Volumes.{undamaged, fresh, below, lines_below, directory, cut_short}

-- the root's line, "`/`, depth 0"
abbrev top : Bytes
top = 0x2f ∷ 0x0a ∷ []

-- a name that is a newline, and one that is a dot
abbrev newline : Bytes
newline = 0x0a ∷ []

abbrev dot : Bytes
dot = 0x2e ∷ []

pub record TreeCases : Type 0 where
  -- "document 01's undamaged area then gives `/` and ` a 15`"
  pub undamaged_tree : attempt_tree undamaged two ≡ goes (top ++ (0x20 ∷ 0x61 ∷ 0x20 ∷ 0x31 ∷ 0x35 ∷ 0x0a ∷ []))
  -- "the fresh pair's third is `/`"
  pub fresh_tree : attempt_tree fresh two ≡ goes top
  -- "its depth as spaces"; a directory has no size, and the size of an empty file is 0
  pub nested_tree : attempt_tree nested two
      ≡ goes (top ++ (0x20 ∷ 0x64 ∷ 0x0a ∷ 0x20 ∷ 0x20 ∷ 0x65 ∷ 0x0a ∷ 0x20 ∷ 0x20 ∷ 0x20 ∷ 0x61 ∷ 0x20 ∷ 0x30 ∷ 0x0a ∷ []))
  -- "for files the size or `broken`": 8 bytes in three blocks, and a block whose previous is missing
  pub broken_tree : attempt_tree logged three
      ≡ goes (top ++ (0x20 ∷ 0x61 ∷ 0x20 ∷ 0x38 ∷ 0x0a ∷ 0x20 ∷ 0x62 ∷ 0x20 ∷ 0x62 ∷ 0x72 ∷ 0x6f ∷ 0x6b ∷ 0x65 ∷ 0x6e ∷ 0x0a ∷ []))
  -- the name is the one that counts
  pub renamed_tree : attempt_tree older_last two ≡ goes (top ++ (0x20 ∷ 0x61 ∷ 0x20 ∷ 0x30 ∷ 0x0a ∷ []))
  -- "orphans and dead ones never": a missing parent, two directories each in the other, a deleted file
  pub orphan_absent : attempt_tree orphaned two ≡ goes top
  pub loop_absent : attempt_tree looping two ≡ goes top
  pub dead_absent : attempt_tree deleted three ≡ goes top
  -- "in order of name bytes": not of ids
  pub in_name_order : lines_below (directory 1 0 b ∷ directory 2 0 a ∷ []) ≡ shown 0 0 ∷ shown 1 2 ∷ shown 1 1 ∷ []
  -- a newline sorts as 0A, before a dot, and is "printed as `/`", which would sort behind it
  pub newline_sorts_as_itself : lines_below (directory 1 0 dot ∷ directory 2 0 newline ∷ []) ≡ shown 0 0 ∷ shown 1 2 ∷ shown 1 1 ∷ []
  pub newline_printed : tree_text by_bytes (below (directory 1 0 (0x61 ∷ 0x0a ∷ 0x62 ∷ []) ∷ []))
      ≡ top ++ (0x20 ∷ 0x61 ∷ 0x2f ∷ 0x62 ∷ 0x0a ∷ [])
  -- "a", "ab", "b": a shorter name before a longer one that it begins, and a lower byte before the length
  pub shorter_first : lines_below (directory 1 0 b ∷ directory 2 0 (a ++ b) ∷ directory 3 0 a ∷ [])
      ≡ shown 0 0 ∷ shown 1 3 ∷ shown 1 2 ∷ shown 1 1 ∷ []
  -- "then id": of one name in order of id, whichever is read first
  pub twins_by_id : lines_below (directory 2 0 a ∷ directory 1 0 a ∷ directory 3 0 b ∷ directory 4 0 b ∷ [])
      ≡ shown 0 0 ∷ shown 1 1 ∷ shown 1 2 ∷ shown 1 3 ∷ shown 1 4 ∷ []
  -- "showing an entry that is a directory shows that directory": before the next entry
  pub directory_shown : lines_below (inode_bytes file 0 1 b ∷ directory 2 0 b ∷ directory 1 0 a ∷ [])
      ≡ shown 0 0 ∷ shown 1 1 ∷ shown 2 file ∷ shown 1 2 ∷ []
  -- and of a file nothing is shown, even if an inode named it as parent, which none that is acceptable does
  pub file_not_walked : lines_below (inode_bytes file 0 0 a ∷ inode_bytes other 0 file b ∷ []) ≡ shown 0 0 ∷ shown 1 file ∷ []
  -- "A directory's children at depth 65 give one line": of two directories at depth 64 one each, and none of one without a live child
  pub depth_64 : show_directory by_bytes cut_short 1 0 ≡ shown 64 1 ∷ deeper ∷ shown 64 2 ∷ shown 64 3 ∷ deeper ∷ []
  -- "65 spaces and `deeper`"
  pub deeper_line : line_text by_bytes cut_short deeper ≡ replicate 65 0x20 ++ (0x64 ∷ 0x65 ∷ 0x65 ∷ 0x70 ∷ 0x65 ∷ 0x72 ∷ 0x0a ∷ [])
  -- sizes in decimal
  pub decimals : map decimal (0 ∷ 9 ∷ 10 ∷ 2048 ∷ 65535 ∷ [])
      ≡ (0x30 ∷ []) ∷ (0x39 ∷ []) ∷ (0x31 ∷ 0x30 ∷ []) ∷ (0x32 ∷ 0x30 ∷ 0x34 ∷ 0x38 ∷ []) ∷ (0x36 ∷ 0x35 ∷ 0x35 ∷ 0x33 ∷ 0x35 ∷ []) ∷ []
  -- the length of the whole text; a buffer that is shorter, as long, and longer
  pub whole_length : tree_answer (goes top) ≡ record { number = 0; length = 2 }
  pub buffers : map (λ buffer. buffer_with buffer (goes top)) ([] ∷ (7 ∷ []) ∷ (7 ∷ 7 ∷ []) ∷ (7 ∷ 7 ∷ 7 ∷ []) ∷ [])
      ≡ [] ∷ (0x2f ∷ []) ∷ top ∷ (0x2f ∷ 0x0a ∷ 7 ∷ []) ∷ []
  -- refused: the number of mount, length 0, and the buffer as it was
  pub refused_tree : tree_answer (attempt_tree clashing three) ≡ record { number = 6; length = 0 }
  pub refused_list : tree_answer (attempt_tree one_byte []) ≡ record { number = 1; length = 0 }
  -- the program's input: not of one area, and "no rest"
  pub refused_input : program_tree (replicate 4096 0) ∷ program_tree (replicate 8193 0) ∷ [] ≡ refuses 1 ∷ refuses 1 ∷ []
  pub refused_buffer : buffer_with (7 ∷ 7 ∷ 7 ∷ []) (attempt_tree clashing three) ≡ 7 ∷ 7 ∷ 7 ∷ []

pub tree_cases : TreeCases
unfolding
    undamaged fresh below cut_short holding one_byte deleted orphaned older_last clashing looping nested logged area_header inode_bytes block_bytes sealed
    inode_front block_front le16 le32 crc_bit crc_byte crc_over check is_directory_id is_file_id is_inode_id is_block_id record_size name_good inode_rule previous_rule
    block_rule inode_rules block_rules check_right well_formed acceptable magics_right valid_header is_scratch is_file_area skip parts placed area_parts
    area_records keep all insert sort joined same once only volume_of versions newest counting ids_of agree all_agree ascend climb fate_of owns owned unnamed
    last_block chain_back file_blocks text_of put good_area disjoint all_disjoint good_areas file_areas scratch_areas first_refusal records_in accepted_records
    volume bad_description shared_area_id wrong_areas short_scratch too_many_ids no_root mount_checks mount_number empty_area format_number longest_length numbered
    labelled blanked rooted formatted image_formatted bytes_before show_entry digits_within decimal line_of name_of comes_before is_live_child entries_of
    show_directory tree_lines words_of tree_text attempt_tree tree_answer in_front buffer_with whole_areas program_tree
tree_cases = record {
  undamaged_tree = refl;
  fresh_tree = refl;
  nested_tree = refl;
  broken_tree = refl;
  renamed_tree = refl;
  orphan_absent = refl;
  loop_absent = refl;
  dead_absent = refl;
  in_name_order = refl;
  newline_sorts_as_itself = refl;
  newline_printed = refl;
  shorter_first = refl;
  twins_by_id = refl;
  directory_shown = refl;
  file_not_walked = refl;
  depth_64 = refl;
  deeper_line = refl;
  decimals = refl;
  whole_length = refl;
  buffers = refl;
  refused_tree = refl;
  refused_list = refl;
  refused_input = refl;
  refused_buffer = refl;
}
