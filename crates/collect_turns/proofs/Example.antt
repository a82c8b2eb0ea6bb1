-- Three areas with counts on both sides of the wrap, and four collections of them.
use Rattle.std.specs.Prelude.{ℕ, ◌+◌, ◌-◌, ◌≤◌, ◌<◌, ◌≡◌, refl, [], ◌∷◌}
use Rattle.std.proofs.Common.{inl, inr, ⊎_elim, arith}
use mathlib.Core.List.Memᴰ
use Rattle.format.specs.Bytes.{le16, le32}
use Rattle.format.specs.Crc.{crc_bit, crc_byte, crc_over, check}
use Rattle.format.specs.Ids.{is_directory_id, is_file_id, is_inode_id, is_block_id}
use Rattle.format.specs.Record.{record_size, name_good, inode_rule, previous_rule, block_rule, inode_rules, block_rules, check_right, well_formed, acceptable}
use Rattle.format.specs.AreaHeader.{magics_right, valid_header, is_scratch, is_file_area}
use Rattle.format.specs.Encoding.{inode_front, sealed, inode_bytes, area_header}
use Rattle.format.specs.Reading.{skip, parts, placed, area_parts, area_records}
use Rattle.volume.specs.Lists.{keep, all, first, same, once}
use Rattle.volume.specs.Counting.{volume_of, versions, newest, counting, ids_of, agree, all_agree}
use Rattle.volume.specs.Fate.{ascend, climb, fate_of, block_dead}
use Rattle.calls.specs.Image.{put}
use Rattle.calls.specs.Areas.{good_area, disjoint, all_disjoint, good_areas, file_areas, scratch_areas}
use Rattle.calls.specs.Refusal.{first_refusal}
use Rattle.calls.specs.Mount.{records_in, accepted_records, volume, bad_description, shared_area_id, wrong_areas, short_scratch, too_many_ids}
use Rattle.calls.specs.Mount.{no_root, mount_checks, mount_number}
use Rattle.calls.specs.Storing.{store_all}
use Rattle.calls.specs.Collect.{eligible, count_of, precedes, unpreceded, source_of, is_other, records_elsewhere, counts, first_places, drops_block, names_inode}
use Rattle.calls.specs.Collect.{drops_inode, drops, copies, is_blank, reset_stores, ready_stores, record_stores, next_count, collect_stores, collected}
use Rattle.calls.specs.Collect.{collecting, collect_of, image_collected}
use Rattle.calls.specs.declared.Descriptor.{Descriptor}
use Rattle.collect_turns.specs.Words.{TakesTurns, times, ends, collects}
use Rattle.collect_turns.specs.Order.{past}
use Rattle.collect_turns.specs.Shares.{Among}
use Rattle.collect_turns.proofs.Shares.{shares}
use Rattle.collect_turns.specs.Example.{a, b, c, areas, start, once_collected, twice, thrice, last, Computed}

pub computed : Computed
unfolding
    start once_collected twice thrice last area_header inode_bytes sealed inode_front le16 le32 crc_bit crc_byte crc_over check is_directory_id is_file_id
    is_inode_id is_block_id record_size name_good inode_rule previous_rule block_rule inode_rules block_rules check_right well_formed acceptable magics_right
    valid_header is_scratch is_file_area skip parts placed area_parts area_records keep all first same once volume_of versions newest counting ids_of agree
    all_agree ascend climb fate_of block_dead put good_area disjoint all_disjoint good_areas file_areas scratch_areas first_refusal records_in accepted_records
    volume bad_description shared_area_id wrong_areas short_scratch too_many_ids no_root mount_checks mount_number store_all eligible precedes unpreceded
    source_of is_other records_elsewhere counts first_places drops_block names_inode drops_inode drops copies is_blank reset_stores ready_stores record_stores
    next_count collect_stores collected collecting collect_of image_collected
computed = record {
  run = collects c a refl refl refl (collects a b refl refl refl (collects b a refl refl refl (collects a c refl refl refl ends)));
  one_scratch = refl;
  files = refl;
  count_a = refl;
  count_b = refl;
  count_c = refl;
  counts_after = refl;
}

-- the counts are among those from 255 on, so that the theorem speaks of this run
among : Among 255 start areas c
among = record { one_scratch = computed.one_scratch; from = omega arith; counts = λ d q. counted d q }
  where
    in_order : (d : Descriptor) (n : ℕ) → count_of start d ≡ n → n < 256 → past 255 n < 128 → (count_of start d < 256) × (past 255 (count_of start d) < 128)
    in_order d n e h g = rw e (h, g)

    counted : (d : Descriptor) → TakesTurns start areas c d → (count_of start d < 256) × (past 255 (count_of start d) < 128)
    counted d (inl e) = rw e (in_order c 0 computed.count_c (omega arith) (omega arith))
    counted d (inr m) = ⊎_elim
        (λ e. rw e (in_order a 255 computed.count_a (omega arith) (omega arith)))
        (λ n. let e : d ≡ b = Memᴰ.eq_of_singleton n in rw e (in_order b 0 computed.count_b (omega arith) (omega arith)))
        (Memᴰ.cases_cons (rw computed.files at m))

pub example : (d e : Descriptor) → TakesTurns start areas c e
    → times d (a ∷ b ∷ a ∷ c ∷ []) ≤ times e (a ∷ b ∷ a ∷ c ∷ []) + 1 + (past 255 (count_of start e) - past 255 (count_of start d))
example = shares 255 start areas c among computed.run
