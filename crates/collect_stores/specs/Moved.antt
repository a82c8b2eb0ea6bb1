-- What the stores of a collection come to. Document 01, "Collect".
use Rattle.std.specs.Prelude.{ℕ, ◌+◌, ◌≤◌, ◌≡◌, List, ◌∷◌, ◌++◌, map}
use Rattle.std.proofs.Math.Path.{sym, ap}
use Rattle.std.proofs.Common.{◌∙◌, append_assoc, arith}
use Rattle.std.proofs.Math.ListN.{length}
use Rattle.format.specs.Bytes.{Bytes}
use Rattle.format.specs.AreaHeader.{area_header_size, area_id, scratch_id}
use Rattle.format.specs.Encoding.{area_header}
use Rattle.format_laws.specs.Encoding.{header_size_lem}
use Rattle.calls.specs.Image.{put}
use Rattle.calls.specs.Areas.{largest_image, area_end, area_bytes}
use Rattle.calls.specs.Storing.{Store, store_all}
use Rattle.calls.specs.Format.{empty_area}
use Rattle.calls.specs.Collect.{count_of, ready_stores, id_store, record_stores, next_count, scratch_stores, collect_stores}
use Rattle.calls.specs.declared.Descriptor.{Descriptor}
use Rattle.record_places.specs.Place.{bytes_at}
use Rattle.image_laws.specs.Laws.{length_put}
use Rattle.image_laws.specs.Stores.{stores_append}
use Rattle.collect_laws.specs.Stores.{filled_is, filled_long, reset_is}
use Rattle.collect_stores.specs.Records.{moved}
use Rattle.collect_stores.specs.Filled.{Fillable}

-- the records at some places of the source s moved to the scratch area t
unfoldable pub moved_into : Bytes → Descriptor → Descriptor → List ℕ → Bytes
moved_into x t s ps = store_all x (collect_stores x t s (map (bytes_at x) ps))

-- records that can be moved from s to t
pub record Removable (x : Bytes) (t s : Descriptor) (ps : List ℕ) : Type 0 where
  pub small : length x ≤ largest_image
  pub inside : area_end s ≤ length x
  pub header : area_header_size ≤ s.length
  pub fill : Fillable x t.offset t.length ps

module _ (x : Bytes) (t s : Descriptor) (ps : List ℕ) where
  -- the stores into scratch
  abbrev pub filling : ℕ → List Store
  filling id = ready_stores x t ++ (id_store t id ∷ record_stores (t.offset + area_header_size) (map (bytes_at x) ps))

  filling_long : (id : ℕ) → Removable x t s ps → length (store_all x (filling id)) ≡ length x
  unfolding moved
  filling_long id ok =
      let f = ok.fill in
      let l = filled_long x t f.header f.inside id (moved x ps) f.room in
      ap length (filled_is x t f.header f.inside id (map (bytes_at x) ps) f.room)
      ∙ length_put x t.offset _ (omega (arith, l, f.inside))

  -- scratch filled, and then the source erased
  pub stores_move : Removable x t s ps → (y z : Bytes) (id count : ℕ) → y ≡ store_all x (filling id)
      → z ≡ put y s.offset (empty_area s.length count scratch_id) → id ≡ area_id (area_bytes x s) → count ≡ next_count (count_of x s) → z ≡ moved_into x t s ps
  unfolding moved_into collect_stores empty_area
  stores_move ok y z id count g h e f =
      let own = area_id (area_bytes x s) in
      let header = area_header s.length (next_count (count_of x s)) scratch_id in
      let d : y ≡ store_all x (filling own) = rw (← e) g in
      let l : length y ≡ length x = ap length d ∙ filling_long own ok in
      (rw f at h)
      ∙ sym (reset_is y s header (header_size_lem s.length (next_count (count_of x s)) scratch_id) ok.header (omega (arith, l, ok.inside)))
      ∙ ap (λ (o : Bytes). store_all o (scratch_stores x s)) d
      ∙ sym (stores_append x (filling own) (scratch_stores x s))
      ∙ ap (store_all x) (append_assoc (ready_stores x t) (id_store t own ∷ record_stores (t.offset + area_header_size) (map (bytes_at x) ps)) (scratch_stores x s))
