-- Scratch filled: erased behind its header, with the id of the source and the copies.
use Rattle.std.specs.Prelude.{ℕ, ◌+◌, ◌≤◌, ◌<◌, ◌≡◌, List, [], ◌∷◌, ◌++◌, map, length, get_or}
use Rattle.std.proofs.Math.Path.{sym, ap}
use Rattle.std.proofs.Common.{◌∙◌, arith}
use Rattle.format.specs.Bytes.{Bytes}
use Rattle.format.specs.AreaHeader.{area_header_size}
use Rattle.calls.specs.Image.{put, part}
use Rattle.calls.specs.Storing.{store_all}
use Rattle.calls.specs.Collect.{ready_stores, id_store, record_stores}
use Rattle.record_places.specs.Place.{size_at, bytes_at, AllLie}
use Rattle.area_list.specs.Described.{area_of}
use Rattle.image_laws.specs.Apart.{Apart, apart_part}
use Rattle.image_laws.specs.Laws.{length_put, part_outside}
use Rattle.image_laws.specs.Stores.{stores_append}
use Rattle.collect_laws.specs.Stores.{ready_is, ready_long, records_are}
use Rattle.record_places.specs.Stays.{size_stays, bytes_stay}
use Rattle.collect_stores.specs.Records.{moved, moved_same}
use Rattle.collect_stores.specs.Moving.{Movable}

-- records that can be copied into the area of n bytes at t, behind its header
pub record Fillable (x : Bytes) (t n : ℕ) (ps : List ℕ) : Type 0 where
  pub inside : t + n ≤ length x
  pub header : area_header_size ≤ n
  pub lie : AllLie x ps (length ps)
  pub room : area_header_size + length (moved x ps) ≤ n
  pub apart : (i : ℕ) → i < length ps → Apart (get_or ps i 0) (size_at x (get_or ps i 0)) t n

module _ (x : Bytes) (t n id : ℕ) where
  -- erased behind the header, and with the id
  abbrev ready : Bytes
  ready = store_all x (ready_stores x (area_of t n))

  abbrev pub renamed : Bytes
  renamed = put (store_all x (ready_stores x (area_of t n))) (t + 23) (id ∷ [])

  module _ (ps : List ℕ) (ok : Fillable x t n ps) where
    ready_size : length ready ≡ length x
    ready_size =
        ap length (ready_is x (area_of t n) ok.header ok.inside)
        ∙ length_put x t _ (omega (arith, ready_long x (area_of t n) ok.header ok.inside, ok.inside))

    renamed_long : length renamed ≡ length x
    renamed_long = length_put ready (t + 23) (id ∷ []) (omega (arith, ready_size, ok.inside, ok.header)) ∙ ready_size

    -- the records are still there
    stays : (i : ℕ) → i < length ps → part renamed (get_or ps i 0) (size_at x (get_or ps i 0)) ≡ part x (get_or ps i 0) (size_at x (get_or ps i 0))
    stays i h =
        let l = ready_long x (area_of t n) ok.header ok.inside in
        part_outside ready (t + 23) (id ∷ []) (omega (arith, ready_size, ok.inside, ok.header)) (get_or ps i 0) (size_at x (get_or ps i 0))
        (apart_part (ok.apart i h) 23 1 (omega (arith, ok.header)))
        ∙ ap (λ (y : Bytes). part y (get_or ps i 0) (size_at x (get_or ps i 0))) (ready_is x (area_of t n) ok.header ok.inside)
        ∙ part_outside x t _ (omega (arith, l, ok.inside)) (get_or ps i 0) (size_at x (get_or ps i 0)) (rw l (ok.apart i h))

    moved_there : moved renamed ps ≡ moved x ps
    moved_there = moved_same x renamed ps (λ i h. bytes_stay x renamed (get_or ps i 0) (stays i h))

    -- and can be copied
    pub filled_movable : Movable renamed ps (t + area_header_size)
    filled_movable = record {
      lie = λ i h. omega (arith, size_stays x renamed (get_or ps i 0) (stays i h), ok.lie i h, renamed_long);
      room = omega (arith, ap length moved_there, renamed_long, ok.inside, ok.room);
      apart = λ i h. rw (size_stays x renamed (get_or ps i 0) (stays i h), moved_there)
          (apart_part (ok.apart i h) area_header_size (length (moved x ps)) ok.room);
    }

    -- the stores together
    pub filled_is : put renamed (t + area_header_size) (moved renamed ps)
        ≡ store_all x (ready_stores x (area_of t n) ++ (id_store (area_of t n) id ∷ record_stores (t + area_header_size) (map (bytes_at x) ps)))
    unfolding moved store_all
    filled_is =
        ap (put renamed (t + area_header_size)) moved_there
        ∙ sym (records_are renamed (t + area_header_size) (map (bytes_at x) ps) (omega (arith, renamed_long, ok.inside, ok.room)))
        ∙ sym (stores_append x (ready_stores x (area_of t n)) (id_store (area_of t n) id ∷ record_stores (t + area_header_size) (map (bytes_at x) ps)))
