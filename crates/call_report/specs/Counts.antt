-- The inodes and the live ones by their rows, and the report.
use Rattle.std.specs.Prelude.{ℕ, ◌≤◌, ◌≡◌, List, length, take}
use Rattle.std.proofs.Common.{sym, ap, ◌∙◌, arith, length-take}
use borrow.Author.Tests.{eq-eqb, ne_eqb}
use Rattle.format.specs.Bytes.{Bytes}
use Rattle.volume.specs.View.{by_bytes}
use Rattle.volume.specs.Fate.{live_ids}
use Rattle.volume_laws.specs.Map.{live_ids_map}
use Rattle.volume_laws.specs.Lists.{keep_shorter}
use Rattle.record_places.specs.Place.{bytes_at, by_place}
use Rattle.record_places.specs.Laws.{place_views}
use Rattle.inode_fate.specs.Fates.{live_by, live_rows}
use Rattle.inode_fate.specs.Laws.{live_rows_lem}
use Rattle.calls.specs.Mount.{volume, mount_number}
use Rattle.calls.specs.Report.{refused_report, mounted_report, report_of}
use Rattle.calls.specs.Outcome.{code, code_nonzero}
use Rattle.calls.specs.declared.Descriptor.{Descriptor}
use Rattle.calls.specs.declared.Refusal.{Refusal}
use Rattle.area_pass.specs.Bridge.{placed_volume, volume_places}
use Rattle.area_damage.specs.Damage.{damage_of}
use Rattle.mount_state.specs.State.{inode_ids_in, inode_spots_in, Safe, Holds}
use Rattle.mount_state.specs.Bridge.{inodes_number}
use Rattle.mount_state.specs.declared.Mounted.{Mounted}

-- no more are live than the table has
pub live_few : (image : Bytes) (n : ℕ) (ids spots : List ℕ) → length (live_rows (by_place image) n ids spots) ≤ n
unfolding live_rows
live_few image n ids spots = omega (arith, keep_shorter (live_by (by_place image) n ids spots) (take n ids), length-take n ids)

pub report_refused : (image : Bytes) (ds : List Descriptor) (r : Refusal) → code r ≡ mount_number image ds → refused_report (code r) ≡ report_of image ds
unfolding report_of
report_refused image ds r e = rw (e, ne_eqb (mount_number image ds) 0 (λ z. code_nonzero r (e ∙ z)))

module _ {image : Bytes} {ds : List Descriptor} {m : Mounted} {t : List ℕ} (s : Safe image m t) (h : Holds image ds m t) where
  live_are : length (live_rows (by_place image) (length (inode_ids_in m t)) (inode_ids_in m t) (inode_spots_in m t)) ≡ length (live_ids by_bytes (volume image ds))
  live_are =
      let e : live_ids by_bytes (volume image ds) ≡ live_ids (by_place image) (placed_volume image ds) =
      rw (volume_places image ds) (live_ids_map (by_place image) by_bytes (bytes_at image) (place_views image) (placed_volume image ds)) in
      ap length (live_rows_lem (by_place image) (placed_volume image ds) (length (inode_ids_in m t)) (inode_ids_in m t) (inode_spots_in m t) h.inodes (omega arith) ∙ sym e)

  pub report_is : (live : ℕ) → live ≡ length (live_rows (by_place image) (length (inode_ids_in m t)) (inode_ids_in m t) (inode_spots_in m t))
      → record {
        number = 0;
        inodes = m.inodes;
        live = live;
        stretches = m.damage.stretches;
        skipped = m.damage.skipped;
        first_offset = m.damage.offset;
        first_length = m.damage.length;
      } ≡ report_of image ds
  unfolding report_of mounted_report damage_of
  report_is live l = rw (l, live_are, h.damage, inodes_number s h, eq-eqb (mount_number image ds) 0 h.number)
