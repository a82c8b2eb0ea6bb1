-- Laws of the loop over areas.
use Rattle.std.specs.Prelude.{ℕ, ◌+◌, ◌*◌, ◌≤◌, ◌<◌, ◌≡◌, refl, List, ◌∷◌, ◌++◌, length, drop, get_or}
use Rattle.std.proofs.Math.Path.{sym}
use Rattle.std.proofs.Common.{ap, ◌∙◌, append-nil, append_assoc, arith, length-take, length-drop}
use Rattle.std.proofs.Math.ListN.{take}
use Rattle.format.specs.Bytes.{Bytes}
use Rattle.format.specs.Record.{record_size}
use Rattle.format.specs.Reading.{area_records}
use Rattle.area_list.specs.Described.{described, described_step, described_end}
use Rattle.area_list.specs.Places.{total_length}
use Rattle.area_pass.specs.Listing.{record_places, places_in, Room, Listed, Files}

-- the areas before i are listed, with k places: those and the ones to come make the whole
pub record Through (image : Bytes) (starts spans ps₀ : List ℕ) (ps : List ℕ) (k i : ℕ) : Type 0 where
  pub within : i ≤ length starts
  pub long : length ps ≡ length ps₀
  pub few : 20 * k + total_length (described (drop i starts) (drop i spans)) ≤ total_length (described starts spans)
  pub fits : k ≤ length ps
  pub is : take k ps ++ places_in image (described (drop i starts) (drop i spans)) ≡ places_in image (described starts spans)

pub through_begins : (image : Bytes) (starts spans ps : List ℕ) → Through image starts spans ps ps 0 0
through_begins image starts spans ps = record { within = omega arith; long = refl; few = omega arith; fits = omega arith; is = refl }

module _ (image : Bytes) (starts spans ps₀ ps : List ℕ) (k i : ℕ) (f : Files image starts spans ps₀) (t : Through image starts spans ps₀ ps k i) where
  pub through_ends : length starts ≤ i → take k ps ≡ places_in image (described starts spans)
  unfolding places_in
  through_ends h = sym (rw (described_end starts spans i h) (append-nil (take k ps))) ∙ t.is

  module _ (h : i < length starts) where
    abbrev start : ℕ
    start = get_or starts i 0

    abbrev span : ℕ
    span = get_or spans i 0

    abbrev area : Bytes
    area = take (get_or spans i 0) (drop (get_or starts i 0) image)

    more : described (drop i starts) (drop i spans) ≡ record { offset = start; length = span } ∷ described (drop (i + 1) starts) (drop (i + 1) spans)
    more = described_step starts spans i (sym f.fit.pairs) h

    total_more : total_length (described (drop i starts) (drop i spans)) ≡ span + total_length (described (drop (i + 1) starts) (drop (i + 1) spans))
    unfolding total_length
    total_more = rw more

    area_length : length area ≡ span
    area_length = omega (arith, length-take span (drop start image), length-drop start image, f.fit.inside i h)

    pub area_room : Room area start ps k
    area_room = record {
      header = omega (arith, area_length, f.fit.long i h);
      inside = omega (arith, area_length, f.fit.inside i h, f.fit.small);
      room = omega (arith, area_length, total_more, t.few, t.long, f.apart, f.room);
    }

    pub through_on : (ps' : List ℕ) (r : ℕ) → length ps' ≡ length ps → Listed area start ps k r ps' → Through image starts spans ps₀ ps' r (i + 1)
    unfolding places_in
    through_on ps' r l g = record {
      within = omega arith;
      long = l ∙ t.long;
      few = omega (arith, g.few, area_length, total_more, t.few);
      fits = omega (arith, g.few, area_length, total_more, t.few, t.long, f.apart, f.room, l);
      is = rw g.is (append_assoc (take k ps) (record_places start (area_records record_size area)) (places_in image (described (drop (i + 1) starts) (drop (i + 1) spans)))
          ∙ sym (ap (λ x. take k ps ++ places_in image x) more)) ∙ t.is;
    }
