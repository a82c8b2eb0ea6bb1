-- What the stores of a collection make of the image: the scratch area and the source, each written whole.
use Rattle.std.specs.Prelude.{ℕ, ◌+◌, ◌-◌, ◌≤◌, ◌≡◌, Bool, cond, T, eqb}
use Rattle.std.proofs.Math.Path.{refl, sym, ap}
use Rattle.std.proofs.Common.{◌∙◌, length-drop, take-append-drop, length-take-le, take_at, eqb→eq}
use Rattle.std.proofs.Math.Bool.{true, false}
use mathlib.Core.List.{List, [], ◌∷◌, ◌++◌, append_assoc}
use native.Mathlib.Omega.{arith}
use Rattle.std.proofs.Math.ListN.{length, take, drop, length-append, length-replicate}
use Rattle.std.proofs.Math.Seq.{take-take, drop_at, drop-append-add, take-append-le}
use Rattle.format.specs.Bytes.{Bytes}
use Rattle.format.specs.AreaHeader.{area_header_size, area_id, scratch_id}
use Rattle.format.specs.Encoding.{area_header}
use Rattle.format.specs.Reading.{ERASED}
use Rattle.format_laws.specs.Encoding.{header_size_lem}
use Rattle.volume.specs.Lists.{all}
use Rattle.volume_laws.specs.Tests.{true→T, and_T}
use Rattle.calls.specs.Image.{put, erased}
use Rattle.calls.specs.Areas.{area_end, area_bytes}
use Rattle.calls.specs.Storing.{store_all}
use Rattle.calls.specs.Format.{empty_area}
use Rattle.calls.specs.Collect.{count_of, is_blank, reset_stores, ready_stores, id_store, record_stores, next_count, scratch_stores, collect_stores}
use Rattle.calls.specs.declared.Descriptor.{Descriptor}
use Rattle.image_laws.specs.Laws.{length_put, part_length, put_none, put_put, put_within}
use Rattle.image_laws.specs.Stores.{joined_bytes, put_itself, put_erased, drop_erased, stores_append}
use Rattle.collect_laws.specs.Header.{header_with_id, renamed_size}

-- the scratch area after a collection: its header with the source's id, the copies, and FF
unfoldable pub filled_scratch : Bytes → Descriptor → ℕ → Bytes → Bytes
filled_scratch image scratch id bytes =
    header_with_id (area_bytes image scratch) id ++ (bytes ++ erased (scratch.length - (area_header_size + length bytes)))

-- ---- the stores by themselves

-- an area erased and headed
pub reset_is : (x : Bytes) (d : Descriptor) (header : Bytes) → length header ≡ area_header_size → area_header_size ≤ d.length → area_end d ≤ length x
    → store_all x (reset_stores d header) ≡ put x d.offset (header ++ erased (d.length - area_header_size))
unfolding store_all reset_stores
reset_is x d header e low h = put_erased x d.offset d.length header h (omega arith) ∙ rw e

-- records one behind the other
pub records_are : (x : Bytes) (p : ℕ) (bs : List Bytes) → p + length (joined_bytes bs) ≤ length x
    → store_all x (record_stores p bs) ≡ put x p (joined_bytes bs)
unfolding store_all record_stores joined_bytes
records_are x p [] h = sym (put_none x p)
records_are x p (b ∷ bs) h =
    let l = length-append b (joined_bytes bs) in
    let k = length_put x p b (omega arith) in
    records_are (put x p b) (p + length b) bs (omega arith) ∙ put_put x p b (joined_bytes bs) (omega arith)

all_erased : (l : Bytes) → T (all (λ b. eqb b ERASED) l) → l ≡ erased (length l)
unfolding all
all_erased [] t = refl
all_erased (b ∷ l) t =
    let k = and_T (eqb b ERASED) (all (λ b. eqb b ERASED) l) t in
    let e = eqb→eq b ERASED k.0 in
    let f = all_erased l k.1 in
    λ i. e i ∷ f i

-- an area that is FF behind its header
blank_is : (area : Bytes) → is_blank area ≡ true → area ≡ take area_header_size area ++ erased (length area - area_header_size)
unfolding is_blank
blank_is area e =
    let a = all_erased (drop area_header_size area) (true→T e) in
    sym (take-append-drop area_header_size area)
    ∙ ap (λ r. take area_header_size area ++ r) (a ∙ ap erased (length-drop area_header_size area))

-- ---- the scratch area

module _ (x : Bytes) (t : Descriptor) (low : area_header_size ≤ t.length) (inside : area_end t ≤ length x) where
  abbrev area : Bytes
  area = area_bytes x t

  abbrev free : Bytes
  free = erased (t.length - area_header_size)

  area_long : length (area_bytes x t) ≡ t.length
  area_long = part_length x t.offset t.length inside

  free_long : length (erased (t.length - area_header_size)) ≡ t.length - area_header_size
  free_long = length-replicate (t.length - area_header_size) ERASED

  header_long : length (take area_header_size (area_bytes x t)) ≡ area_header_size
  header_long = length-take-le area_header_size area (omega (arith, area_long))

  -- erased behind its header, whether that had to be done or not
  pub ready_is : store_all x (ready_stores x t) ≡ put x t.offset (take area_header_size (area_bytes x t) ++ erased (t.length - area_header_size))
  unfolding store_all ready_stores
  ready_is = go (is_blank area) refl
    where
      go : (b : Bool) → is_blank area ≡ b
          → store_all x (cond b [] (reset_stores t (take area_header_size area))) ≡ put x t.offset (take area_header_size area ++ free)
      go true e =
          sym (put_itself x t.offset t.length inside)
          ∙ ap (put x t.offset) (blank_is area e ∙ rw area_long)
      go false e = reset_is x t (take area_header_size area) header_long low inside

  pub ready_long : length (take area_header_size (area_bytes x t) ++ erased (t.length - area_header_size)) ≡ t.length
  ready_long = omega (arith, length-append (take area_header_size area) free, header_long, free_long)

  module _ (id : ℕ) where
    -- the id byte stored over a header with nothing behind it
    id_stored : put (take area_header_size (area_bytes x t) ++ erased (t.length - area_header_size)) 23 (id ∷ [])
        ≡ header_with_id (area_bytes x t) id ++ erased (t.length - area_header_size)
    unfolding put header_with_id
    id_stored =
        rw (
          take-append-le 23 (take area_header_size area) free (omega (arith, header_long)),
          take-take 23 area_header_size area (omega arith),
          drop_at (take area_header_size area) free area_header_size header_long,
        )
        (sym (append_assoc (take 23 area) (id ∷ []) free))

    front_long : length (header_with_id (area_bytes x t) id) ≡ area_header_size
    front_long = renamed_size area id (omega (arith, area_long))

    -- copies stored behind it
    copies_stored : (b : Bytes) → put (header_with_id (area_bytes x t) id ++ erased (t.length - area_header_size)) area_header_size b ≡ filled_scratch x t id b
    unfolding put filled_scratch
    copies_stored b =
        let front = header_with_id area id in
        let d : drop (area_header_size + length b) (front ++ free) ≡ drop (length b) free
        = ap (λ (k : ℕ). drop (k + length b) (front ++ free)) (sym front_long) ∙ drop-append-add front free (length b) in
        let e : t.length - area_header_size - length b ≡ t.length - (area_header_size + length b) = omega arith in
        rw (take_at front free area_header_size front_long, d, drop_erased (length b) (t.length - area_header_size), e)

    pub filled_is : (bs : List Bytes) → area_header_size + length (joined_bytes bs) ≤ t.length
        → store_all x (ready_stores x t ++ (id_store t id ∷ record_stores (t.offset + area_header_size) bs))
        ≡ put x t.offset (filled_scratch x t id (joined_bytes bs))
    unfolding store_all
    filled_is bs room =
        let header = take area_header_size area ++ free in
        let front = header_with_id area id ++ free in
        let h : length header ≡ t.length = ready_long in
        let f : length front ≡ t.length = omega (arith, length-append (header_with_id area id) free, front_long, free_long) in
        let named : put (store_all x (ready_stores x t)) (t.offset + 23) (id ∷ []) ≡ put x t.offset front
        = ap (λ (y : Bytes). put y (t.offset + 23) (id ∷ [])) ready_is
        ∙ put_within x t.offset header 23 (id ∷ []) (omega arith) (omega arith)
        ∙ ap (put x t.offset) id_stored in
        let l = length_put x t.offset front (omega arith) in
        stores_append x (ready_stores x t) (id_store t id ∷ record_stores (t.offset + area_header_size) bs)
        ∙ ap (λ (y : Bytes). store_all y (record_stores (t.offset + area_header_size) bs)) named
        ∙ records_are (put x t.offset front) (t.offset + area_header_size) bs (omega arith)
        ∙ put_within x t.offset front area_header_size (joined_bytes bs) (omega arith) (omega arith)
        ∙ ap (put x t.offset) (copies_stored (joined_bytes bs))

    pub filled_long : (b : Bytes) → area_header_size + length b ≤ t.length → length (filled_scratch x t id b) ≡ t.length
    unfolding filled_scratch
    filled_long b room =
        let n = t.length - (area_header_size + length b) in
        omega (
          arith,
          length-append (header_with_id area id) (b ++ erased n),
          length-append b (erased n),
          length-replicate n ERASED,
          front_long,
        )

-- ---- both areas

-- all stores of a collection of s into t, with the copies bs
pub stores_are : (x : Bytes) (t s : Descriptor) (bs : List Bytes) → area_header_size ≤ t.length → area_end t ≤ length x → area_header_size ≤ s.length
    → area_end s ≤ length x → area_header_size + length (joined_bytes bs) ≤ t.length
    → store_all x (collect_stores x t s bs)
    ≡ put (put x t.offset (filled_scratch x t (area_id (area_bytes x s)) (joined_bytes bs))) s.offset
    (empty_area s.length (next_count (count_of x s)) scratch_id)
unfolding collect_stores empty_area
stores_are x t s bs low inside also within room =
    let id = area_id (area_bytes x s) in
    let filled = filled_scratch x t id (joined_bytes bs) in
    let copied = id_store t id ∷ record_stores (t.offset + area_header_size) bs in
    let header = area_header s.length (next_count (count_of x s)) scratch_id in
    let l = length_put x t.offset filled (omega (arith, filled_long x t low inside id (joined_bytes bs) room)) in
    ap (store_all x) (sym (append_assoc (ready_stores x t) copied (scratch_stores x s)))
    ∙ stores_append x (ready_stores x t ++ copied) (scratch_stores x s)
    ∙ ap (λ (y : Bytes). store_all y (scratch_stores x s)) (filled_is x t low inside id bs room)
    ∙ reset_is (put x t.offset filled) s header (header_size_lem s.length (next_count (count_of x s)) scratch_id) also (omega arith)
