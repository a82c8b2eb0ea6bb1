-- Laws of the places of records, which the loops use.
use Rattle.std.specs.Prelude.{ℕ, ◌+◌, ◌*◌, ◌≤◌, ◌<◌, ◌≡◌, refl, List, [], ◌++◌, length, take, set}
use Rattle.std.proofs.Math.Path.{sym}
use Rattle.std.proofs.Common.{◌∙◌, append-nil, arith, add-one}
use Rattle.std.proofs.Math.ListN.{length-set}
use Rattle.std.proofs.Math.Seq.{take-suc-set, append_snoc}
use Rattle.format.specs.Bytes.{Bytes}
use Rattle.format.specs.Record.{record_size}
use Rattle.format.specs.AreaHeader.{area_header_size}
use Rattle.format.specs.Reading.{area_records}
use Rattle.format_laws.specs.Taken.{records_from, records_from_lem}
use Rattle.area_read.specs.Laws.{Nexts}
use Rattle.area_read.specs.declared.Next.{Next}
use Rattle.area_pass.specs.Listing.{record_places, Room, Listed}

-- listing has come to the place `at` of an area with k places: those and the ones to come make the whole
pub record Going (area : Bytes) (base : ℕ) (ps₀ : List ℕ) (n : ℕ) (ps : List ℕ) (k at : ℕ) : Type 0 where
  pub within : at ≤ length area
  pub long : length ps ≡ length ps₀
  pub few : 20 * k + area_header_size ≤ 20 * n + at
  pub is : take k ps ++ record_places base (records_from record_size area at) ≡ take n ps₀ ++ record_places base (area_records record_size area)

pub going_begins : (area : Bytes) (base : ℕ) (ps : List ℕ) (n : ℕ) → Room area base ps n → Going area base ps n ps n area_header_size
going_begins area base ps n r = record {
  within = r.header;
  long = refl;
  few = omega arith;
  is = rw (records_from_lem record_size area);
}

module _ (area : Bytes) (base : ℕ) (ps₀ : List ℕ) (n : ℕ) (ps : List ℕ) (k at : ℕ) (g : Going area base ps₀ n ps k at) where
  pub going_ends : records_from record_size area at ≡ [] → Listed area base ps₀ n k ps
  unfolding record_places
  going_ends e = record {
    is = sym (rw e (append-nil (take k ps))) ∙ g.is;
    few = omega (arith, g.few, g.within);
  }

  module _ (room : Room area base ps₀ n) (f : Next) (x : Nexts area at f) where
    pub has_room : k < length ps
    has_room = omega (arith, g.few, g.long, x.after, x.room, x.least, room.room)

    pub going_on : Going area base ps₀ n (set ps k (base + f.at)) (k + 1) (f.at + f.size)
    unfolding record_places
    going_on = record {
      within = x.room;
      long = length-set ps k (base + f.at) ∙ g.long;
      few = omega (arith, g.few, x.after, x.least);
      is =
          rw (add-one, take-suc-set ps k (base + f.at) has_room)
          (append_snoc (take k ps) (base + f.at) (record_places base (records_from record_size area (f.at + f.size))) ∙ sym (rw x.some) ∙ g.is);
    }
