-- From the areas that checks 1 to 4 pass, and the records in them, to the mounted volume.
use Rattle.std.specs.Prelude.{ℕ, ◌+◌, ◌≤◌, ◌<◌, ◌≡◌, refl, List, Ok, Err, length, take, get_or}
use Rattle.std.proofs.Common.{sym, ap, ap₂, subst, ◌∙◌, arith, length-take, get_or-take}
use mathlib.Core.List.Memᴰ
use Rattle.format.specs.Bytes.{Bytes}
use Rattle.volume.specs.Counting.{Volume, volume_of}
use Rattle.record_places.specs.Place.{by_place, AllLie}
use Rattle.table_fill.proofs.Laws.{get_d_in}
use Rattle.table_fill.specs.Agreement.{sound_places}
use Rattle.table_fill.specs.Parts.{all_rows, inode_rows}
use Rattle.table_rows.specs.Parts.{part, put_back, part_long, part_part, part_same, part_before, part_front, put_long, both}
use Rattle.table_rows.specs.Rows.{InodeTable, BlockTable, RowsOf}
use Rattle.calls.specs.Areas.{most_areas, file_areas}
use Rattle.calls.specs.Refusal.{first_refusal}
use Rattle.calls.specs.Outcome.{code, code_nonzero}
use Rattle.calls.specs.declared.Refusal.{Refusal}
use Rattle.calls.specs.Mount.{accepted_records, volume, mount_number, most_inodes, most_blocks, most_records}
use Rattle.calls.specs.Report.{damage_in}
use Rattle.calls.specs.declared.Descriptor.{Descriptor}
use Rattle.calls_laws.specs.Records.{records_sound}
use Rattle.area_list.specs.Described.{described, described_length}
use Rattle.area_kinds.specs.Checks.{record_checks, mount_refused, mount_goes_on, Checked, Split}
use Rattle.area_list.specs.Good.{AreaFits}
use Rattle.area_kinds.specs.Places.{AreasPass, checked_pass, member_fits, scratch_member, files_apart, files_lie}
use Rattle.area_kinds.specs.declared.CheckedAreas.{CheckedAreas}
use Rattle.area_pass.specs.Listing.{places_in, AreasFit}
use Rattle.area_damage.specs.Damage.{damage_of}
use Rattle.area_pass.specs.Rows.{spans_at, stretches_at, free_at, area_rows, area_at, Tells, Readings, Small}
use Rattle.area_pass.specs.Rows.{Lent as PassLent}
use Rattle.area_pass.specs.Bridge.{placed_volume, places_bytes, places_lie}
use Rattle.area_damage.specs.declared.Damage.{Damage}
use Rattle.mount_state.specs.State.{tables_size, inode_ids_at, inode_spots_at, block_ids_at, block_spots_at, Held}
use Rattle.mount.specs.Filling.{checks_in, Ready, Rowed, Fills}
use Rattle.mount.specs.declared.Filled.{Filled}

record_checks_lem : (image : Bytes) (ds : List Descriptor) → record_checks image ds ≡ checks_in image (file_areas image ds)
unfolding record_checks checks_in volume accepted_records
record_checks_lem image ds = refl

-- a mount that checks 1 to 4 refuse
pub areas_refused : (image : Bytes) (ds : List Descriptor) (r : Refusal) (t : List ℕ) → Checked image ds (Err r) t → code r ≡ mount_number image ds
areas_refused image ds r t c = sym (mount_refused image ds (code r) (sym c.refusal) (code_nonzero r))

-- the answer a of checks 1 to 4, which left the file areas in the tables t
module _ (image : Bytes) (ds : List Descriptor) (a : CheckedAreas) (t : List ℕ) (long : length t ≡ tables_size) (c : Checked image ds (Ok a) t) where
  passed : AreasPass image ds
  passed = checked_pass image ds a t c

  split : Split image ds a t
  split = c.split a refl

  fits : AreasFit image (part 0 a.files t) (part spans_at a.files t)
  fits = files_lie image ds passed a t split (omega (arith, long))

  scratch_fits : AreaFits (length image) a.scratch
  scratch_fits = member_fits image ds passed a.scratch (scratch_member image ds passed a.scratch (rw split.scratch (Memᴰ.head refl)))

  -- check 3 asks for a file area
  some_file : 0 < a.files
  some_file = omega (arith, passed.kinds.some, ap length split.files, described_length (part 0 a.files t) (part spans_at a.files t) (sym fits.pairs), length-take a.files t)

  pub pass_lent : (places : List ℕ) → length places ≡ most_records → PassLent image t a.files places
  pass_lent places h = record { long = omega (arith, long); few = split.few; files_are = record { fit = fits; apart = files_apart image ds passed a t split (omega (arith, long)); room = omega arith } }

  -- n places are listed, the tables u have the readings of the areas, and q is their damage
  module _ (n : ℕ) (ps u : List ℕ) (l : take n ps ≡ places_in image (described (part 0 a.files t) (part spans_at a.files t)))
      (few : n ≤ length ps) (ps_long : length ps ≡ most_records) (u_same : length u ≡ length t) (read : Readings image a.files t u)
      (q : Damage) (damage : q ≡ damage_of 0 (damage_in image (described (part 0 a.files t) (part spans_at a.files t)))) where
    listed : take n ps ≡ places_in image (file_areas image ds)
    listed = l ∙ ap (places_in image) split.files

    u_long : length u ≡ tables_size
    u_long = u_same ∙ long

    all_lie : AllLie image ps n
    all_lie i g = places_lie image (file_areas image ds) (get_or ps i 0) (rw listed at (get_d_in n ps i g few))

    pub ready : Ready image ps n (part inode_ids_at all_rows u)
    ready = record {
      count = few;
      few = omega (arith, few, ps_long);
      lie = all_lie;
      kinds = rw listed (sound_places image (places_in image (file_areas image ds)) (rw (places_bytes image (file_areas image ds)) (records_sound image (file_areas image ds))));
      long = part_long inode_ids_at all_rows u (omega (arith, u_long));
    }

    -- the tables are not filled
    pub records_refused : (r : Refusal) (rows : List ℕ) → Fills image ps n (Err r) rows → code r ≡ mount_number image ds
    records_refused r rows g = g.number (file_areas image ds) listed ∙ ap first_refusal (sym (record_checks_lem image ds)) ∙ sym (mount_goes_on image ds (sym c.refusal))

    -- the tables are filled
    module _ (f : Filled) (rows : List ℕ) (g : Fills image ps n (Ok f) rows) where
      checked : 0 ≡ mount_number image ds
      checked = g.number (file_areas image ds) listed ∙ ap first_refusal (sym (record_checks_lem image ds)) ∙ sym (mount_goes_on image ds (sym c.refusal))

      module _ (rows_long : length rows ≡ length (part inode_ids_at all_rows u)) where
        rowed : Rowed image (take n ps) f rows
        rowed = g.rowed

        within : inode_ids_at + all_rows ≤ length u
        within = omega (arith, u_long)

        all_long : length rows ≡ all_rows
        all_long = rows_long ∙ part_long inode_ids_at all_rows u within

        abbrev full : List ℕ
        full = put_back inode_ids_at all_rows u rows

        full_long : length full ≡ tables_size
        full_long = put_long inode_ids_at all_rows u rows within all_long ∙ u_long

        -- the parts of the tables of inodes and of blocks
        inner : (b k : ℕ) → b + k ≤ all_rows → part (inode_ids_at + b) k full ≡ part b k rows
        inner b k h =
            sym (part_part inode_ids_at all_rows b k full h (omega (arith, full_long))) ∙ ap (part b k) (part_same inode_ids_at all_rows u rows within all_long)

        -- the rows of areas are those of u, and their offsets and lengths those of t
        at_row : (j : ℕ) → j < area_rows → get_or full j 0 ≡ get_or u j 0
        at_row j h =
            sym (get_or-take area_rows full j 0 h)
            ∙ ap (λ (x : List ℕ). get_or x j 0) (part_before inode_ids_at all_rows u rows within 0 area_rows (omega arith))
            ∙ get_or-take area_rows u j 0 h

        at_area : (j : ℕ) → j < stretches_at → get_or full j 0 ≡ get_or t j 0
        at_area j h =
            at_row j (omega arith) ∙ sym (get_or-take stretches_at u j 0 h) ∙ ap (λ (x : List ℕ). get_or x j 0) read.areas ∙ get_or-take stretches_at t j 0 h

        outer : (b k : ℕ) → b + k ≤ stretches_at → part b k full ≡ part b k t
        outer b k h =
            part_before inode_ids_at all_rows u rows within b k (omega arith)
            ∙ sym (part_front stretches_at b k u h (omega (arith, u_long)))
            ∙ ap (part b k) read.areas
            ∙ part_front stretches_at b k t h (omega (arith, long))

        reads : (i : ℕ) → i < a.files → Tells (area_at image full i) full i
        reads i h =
            let w : i < most_areas = omega (arith, split.few) in
            let t = read.read i h in
            rw (at_area (spans_at + i) (omega arith), at_area i (omega arith)) (record {
              stretches = at_row (stretches_at + i) (omega arith) ∙ t.stretches;
              free = at_row (free_at + i) (omega arith) ∙ t.free;
            })

        smalls : (i : ℕ) → i < a.files → Small full i
        smalls i h =
            let w : i < most_areas = omega (arith, split.few) in
            omega (arith, read.small i h, at_row (free_at + i) (omega arith))

        is_volume : volume_of (by_place image) (take n ps) ≡ placed_volume image ds
        is_volume = ap (volume_of (by_place image)) listed

        starts_still : part 0 a.files full ≡ part 0 a.files t
        starts_still = outer 0 a.files (omega (arith, split.few))

        spans_still : part spans_at a.files full ≡ part spans_at a.files t
        spans_still = outer spans_at a.files (omega (arith, split.few))

        inode_ids_lem : part inode_ids_at f.inodes full ≡ part 0 f.inodes rows
        inode_ids_lem = inner 0 f.inodes (omega (arith, rowed.inodes_few))

        inode_spots : part inode_spots_at f.inodes full ≡ part most_inodes f.inodes rows
        inode_spots = inner most_inodes f.inodes (omega (arith, rowed.inodes_few))

        block_ids_lem : part block_ids_at f.blocks full ≡ part inode_rows f.blocks rows
        block_ids_lem = inner inode_rows f.blocks (omega (arith, rowed.blocks_few))

        block_spots_lem : part block_spots_at f.blocks full ≡ part (inode_rows + most_blocks) f.blocks rows
        block_spots_lem = inner (inode_rows + most_blocks) f.blocks (omega (arith, rowed.blocks_few))

        pub mount_passes :
            Held image ds (record { files = a.files; records = n; inodes = f.inodes; blocks = f.blocks; damage = q; scratch = a.scratch })
            (put_back inode_ids_at all_rows u rows) ps
        mount_passes = record {
          safe = record {
            long = full_long;
            some_file = some_file;
            files_few = split.few;
            inodes_few = rowed.inodes_few;
            blocks_few = rowed.blocks_few;
            fit = both (AreasFit image) starts_still spans_still fits;
            readings = smalls;
            scratch = scratch_fits;
            inodes = both (InodeTable image) inode_ids_lem inode_spots rowed.inodes;
            blocks = both (BlockTable image) block_ids_lem block_spots_lem rowed.blocks;
          };
          holds = record {
            number = sym checked;
            files = ap₂ described starts_still spans_still ∙ split.files;
            readings = reads;
            damage = damage ∙ ap (λ (fs : List Descriptor). damage_of 0 (damage_in image fs)) split.files;
            scratch = split.scratch;
            inodes = both (RowsOf (by_place image) (placed_volume image ds).inodes) inode_ids_lem inode_spots
                (subst (λ (v : Volume ℕ). RowsOf (by_place image) v.inodes (part 0 f.inodes rows) (part most_inodes f.inodes rows)) is_volume rowed.inode_rows_lem);
            blocks = both (RowsOf (by_place image) (placed_volume image ds).blocks) block_ids_lem block_spots_lem
                (subst (λ (v : Volume ℕ). RowsOf (by_place image) v.blocks (part inode_rows f.blocks rows) (part (inode_rows + most_blocks) f.blocks rows)) is_volume
                rowed.block_rows_lem);
          };
          safe_places = record { few = few; records_few = omega (arith, few, ps_long); lie = all_lie };
          holds_places = listed;
        }
