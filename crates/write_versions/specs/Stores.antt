-- The loop that stores the new versions, in file order.
use Rattle.std.specs.Prelude.{ℕ, suc, max, min, ◌+◌, ◌-◌, ◌≤◌, ◌<◌, ◌≡◌, refl, true, false, cond, ◌&&◌, List, [], ◌∷◌, map, drop, get_or, eqb}
use Rattle.std.proofs.Math.Path.{sym, ap}
use Rattle.std.proofs.Common.{◌∙◌, arith, length-append, drop_of_length-le, drop-cons, drop-drop}
use Rattle.std.proofs.Math.ListN.{length}
use Rattle.std.proofs.Math.Seq.{drop-append_seam, take-append_seam}
use Rattle.std.proofs.lemmas.Bool.{eqb-false}
use Rattle.format.specs.Bytes.{Bytes}
use Rattle.format.specs.Record.{block, record_sequence}
use Rattle.volume.specs.View.{by_bytes}
use Rattle.volume.specs.Contents.{text_of}
use Rattle.volume_laws.specs.Map.{text_of_map}
use Rattle.volume_laws.specs.Tests.{or_is_false}
use Rattle.calls.specs.Image.{put, part}
use Rattle.calls.specs.Storing.{store_all}
use Rattle.calls.specs.Rewrite.{last_sequence}
use Rattle.calls.specs.Overwrite.{holds_byte, changes_from, changes, text_after, new_version}
use Rattle.image_laws.specs.Apart.{Apart}
use Rattle.image_laws.specs.Laws.{length_put, part_length, part_outside, part_shared}
use Rattle.record_places.specs.Place.{size_at, bytes_at, by_place}
use Rattle.record_places.specs.Laws.{place_views, size_block}
use Rattle.record_places.specs.Stays.{kind_stays, size_stays, bytes_stay}
use Rattle.file_list.specs.Listing.{data_size, Listed}
use Rattle.file_blocks.specs.Walk.{data_long}
use Rattle.write_room.specs.Spaces.{EndsWithin, ClearOf}
use Rattle.write_room.specs.Plan.{EachAt, pair_stores}
use Rattle.write_versions.specs.Held.{held_meets, total, sizes_held, Sizes, Position, position_begins, position_next, position_within}
use Rattle.write_versions.specs.Greatest.{listed_size, listed_long, text_size_lem, greatest_from, greatest_step}
use Rattle.write_versions.specs.Sizes.{version_size}
use Rattle.write_versions.specs.Version.{Versioned}

-- the new versions of the blocks that hold a byte of the range, whose bytes are those of the text
abbrev pub versions_of : Bytes → List ℕ → ℕ → Bytes → List Bytes
versions_of image bs from text = map new_version (changes (map (bytes_at image) bs) from text)

-- the bytes of the sizes are those of the text
pub text_total : (x₀ : Bytes) (cs : List ℕ) → length (text_of (by_place x₀) cs) ≡ total (map (data_size x₀) cs)
unfolding text_of total
text_total x₀ [] = refl
text_total x₀ (p ∷ cs) = length-append ((by_place x₀).text p) (text_of (by_place x₀) cs) ∙ ap (λ n. data_size x₀ p + n) (text_total x₀ cs)

-- nothing at any place
pairs_none : (qs : List ℕ) → pair_stores qs [] ≡ []
unfolding pair_stores
pairs_none [] = refl
pairs_none (q ∷ qs) = refl

-- what the stores need to stay in bounds: a place in the image for each, and a range within the file
pub record Storable (image : Bytes) (bs ns qs : List ℕ) (from to : ℕ) (text : Bytes) : Type 0 where
  pub listed : Listed image bs ns
  pub sizes : Sizes ns
  pub ends : EachAt (EndsWithin (length image)) (sizes_held from to 0 ns) qs
  pub count : length (sizes_held from to 0 ns) ≤ length qs
  pub range : to ≡ from + length text
  pub within : to ≤ total ns

-- what makes them the versions that are meant: the places are apart from the blocks, and each has a sequence that can be followed
pub record Fresh (image : Bytes) (bs ns qs : List ℕ) (from to : ℕ) : Type 0 where
  pub apart : (j : ℕ) → j < length bs → EachAt (ClearOf (get_or bs j 0) (size_at image (get_or bs j 0))) (sizes_held from to 0 ns) qs
  pub follows : (after : Bytes) → greatest_from image from to after 0 bs ≡ false

-- ---- the loop

-- of what is meant: the blocks before i, which begins at s, are done, and those to come make the whole
pub record Going (x₀ : Bytes) (bs ns qs : List ℕ) (from to : ℕ) (after x : Bytes) (s k i : ℕ) : Type 0 where
  pub stays : (j : ℕ) → j < length bs → part x (get_or bs j 0) (size_at x₀ (get_or bs j 0)) ≡ part x₀ (get_or bs j 0) (size_at x₀ (get_or bs j 0))
  pub apart : (j : ℕ) → j < length bs → EachAt (ClearOf (get_or bs j 0) (size_at x₀ (get_or bs j 0))) (sizes_held from to s (drop i ns)) (drop k qs)
  pub follows : greatest_from x₀ from to after s (drop i bs) ≡ false
  pub texts : drop s (text_of (by_place x₀) bs) ≡ text_of (by_place x₀) (drop i bs)
  pub left : store_all x (pair_stores (drop k qs) (map new_version (changes_from from to after s (map (bytes_at x₀) (drop i bs)))))
      ≡ store_all x₀ (pair_stores qs (map new_version (changes_from from to after 0 (map (bytes_at x₀) bs))))

pub record Storing (x₀ : Bytes) (bs ns qs : List ℕ) (from to : ℕ) (text x : Bytes) (s k i : ℕ) : Type 0 where
  pub position : Position ns s i
  pub long : length x ≡ length x₀
  pub count : k + length (sizes_held from to s (drop i ns)) ≤ length qs
  pub ends : EachAt (EndsWithin (length x₀)) (sizes_held from to s (drop i ns)) (drop k qs)
  pub going : Fresh x₀ bs ns qs from to → Going x₀ bs ns qs from to (text_after (map (bytes_at x₀) bs) from text) x s k i

module _ {x₀ : Bytes} {bs ns qs : List ℕ} {from to : ℕ} {text : Bytes} (ok : Storable x₀ bs ns qs from to text) where
  pub storing_begins : Storing x₀ bs ns qs from to text x₀ 0 0 0
  storing_begins = record {
    position = position_begins ns;
    long = refl;
    count = omega (arith, ok.count);
    ends = ok.ends;
    going = λ f. record { stays = λ j h. refl; apart = f.apart; follows = f.follows _; texts = refl; left = refl };
  }

  abbrev W : Bytes
  W = text_of (by_place x₀) bs

  abbrev after : Bytes
  after = text_after (map (bytes_at x₀) bs) from text

  after_is : after ≡ put W from text
  after_is = ap (λ (w : Bytes). put w from text) (text_of_map (by_place x₀) by_bytes (bytes_at x₀) (place_views x₀) bs)

  whole_long : length W ≡ total ns
  whole_long = text_total x₀ bs ∙ ap total (sym ok.listed.sizes)

  module _ {x : Bytes} {s k i : ℕ} (g : Storing x₀ bs ns qs from to text x s k i) where
    pub storing_ends : length bs ≤ i → Fresh x₀ bs ns qs from to → x ≡ store_all x₀ (pair_stores qs (versions_of x₀ bs from text))
    unfolding changes_from changes store_all
    storing_ends h f =
        let w = (g.going f).left in
        rw (pairs_none (drop k qs), ok.range) at (rw (drop_of_length-le bs {i = i} h) at w)

    module _ (h : i < length bs) where
      abbrev p : ℕ
      p = get_or bs i 0

      abbrev n : ℕ
      n = get_or ns i 0

      in_sizes : i < length ns
      in_sizes = omega (arith, listed_long ok.listed)

      n_is : n ≡ data_size x₀ p
      n_is = listed_size ok.listed i h

      sized : size_at x₀ p ≡ block.header_size + n
      sized =
          let l = ok.listed.lie i h in
          omega (arith, size_block x₀ p l.1, data_long x₀ p l.0 l.1, n_is)

      -- it is in bounds
      pub storing_inside : p + (block.header_size + n) ≤ length x
      storing_inside = omega (arith, sized, (ok.listed.lie i h).0, g.long)

      more_blocks : drop i bs ≡ p ∷ drop (i + 1) bs
      more_blocks = let z : i + 1 ≡ suc i = omega arith in rw z (drop-cons bs i 0 h)

      more_sizes : drop i ns ≡ n ∷ drop (i + 1) ns
      more_sizes = let z : i + 1 ≡ suc i = omega arith in rw z (drop-cons ns i 0 in_sizes)

      -- its text, and the text behind it
      here : drop s W ≡ text_of (by_place x₀) (drop i bs) → part W s n ≡ (by_place x₀).text p
      unfolding text_of
      here e = rw (e, more_blocks, n_is) (take-append_seam ((by_place x₀).text p) (text_of (by_place x₀) (drop (i + 1) bs)))

      behind : drop s W ≡ text_of (by_place x₀) (drop i bs) → drop (s + n) W ≡ text_of (by_place x₀) (drop (i + 1) bs)
      unfolding text_of
      behind e =
          sym (drop-drop n s W)
          ∙ rw (e, more_blocks, n_is) (drop-append_seam ((by_place x₀).text p) (text_of (by_place x₀) (drop (i + 1) bs)))

      changes_here : changes_from from to after s (map (bytes_at x₀) (drop i bs))
          ≡ cond (holds_byte from to s n) (record { block = bytes_at x₀ p; text = part after s n } ∷ changes_from from to after (s + n) (map (bytes_at x₀) (drop (i + 1) bs)))
          (changes_from from to after (s + n) (map (bytes_at x₀) (drop (i + 1) bs)))
      unfolding changes_from
      changes_here = rw (more_blocks, text_size_lem x₀ p, ← n_is)

      sizes_here : sizes_held from to s (drop i ns)
          ≡ cond (holds_byte from to s n) (n ∷ sizes_held from to (s + n) (drop (i + 1) ns)) (sizes_held from to (s + n) (drop (i + 1) ns))
      unfolding sizes_held
      sizes_here = rw more_sizes

      follows_here : (f : Fresh x₀ bs ns qs from to)
          → ((holds_byte from to s n && eqb last_sequence (record_sequence (bytes_at x₀ p))) ≡ false) × (greatest_from x₀ from to after (s + n) (drop (i + 1) bs) ≡ false)
      follows_here f =
          let e = rw more_blocks at (g.going f).follows in
          or_is_false _ _ (sym (greatest_step x₀ from to after s p n (drop (i + 1) bs) n_is) ∙ e)

      -- a block that holds no byte of the range
      pub storing_past : holds_byte from to s n ≡ false → Storing x₀ bs ns qs from to text x (s + n) k (i + 1)
      storing_past e =
          let z : sizes_held from to s (drop i ns) ≡ sizes_held from to (s + n) (drop (i + 1) ns) = sizes_here ∙ rw e in
          let y : changes_from from to after s (map (bytes_at x₀) (drop i bs)) ≡ changes_from from to after (s + n) (map (bytes_at x₀) (drop (i + 1) bs)) = changes_here ∙ rw e in
          record {
            position = position_next g.position in_sizes;
            long = g.long;
            count = rw z at g.count;
            ends = rw z at g.ends;
            going = λ f. let o = g.going f in record {
              stays = o.stays;
              apart = λ j l. rw z at (o.apart j l);
              follows = (follows_here f).1;
              texts = behind o.texts;
              left = rw y at o.left;
            };
          }

      -- one that holds some
      module _ (e : holds_byte from to s n ≡ true) where
        abbrev at : ℕ
        at = get_or qs k 0

        z : sizes_held from to s (drop i ns) ≡ n ∷ sizes_held from to (s + n) (drop (i + 1) ns)
        z = sizes_here ∙ rw e

        pub storing_row : k < length qs
        storing_row = omega (arith, g.count, ap length z)

        more_places : drop k qs ≡ at ∷ drop (k + 1) qs
        more_places = let y : k + 1 ≡ suc k = omega arith in rw y (drop-cons qs k 0 storing_row)

        both_end : (at + (block.header_size + n) ≤ length x₀) × EachAt (EndsWithin (length x₀)) (sizes_held from to (s + n) (drop (i + 1) ns)) (drop (k + 1) qs)
        unfolding EachAt
        both_end = rw (z, more_places) at g.ends

        pub storing_fits : at + (block.header_size + n) ≤ length x
        storing_fits = omega (arith, both_end.0, g.long)

        all_apart : (f : Fresh x₀ bs ns qs from to) (j : ℕ) → j < length bs
            → Apart (get_or bs j 0) (size_at x₀ (get_or bs j 0)) at (block.header_size + n)
            × EachAt (ClearOf (get_or bs j 0) (size_at x₀ (get_or bs j 0))) (sizes_held from to (s + n) (drop (i + 1) ns)) (drop (k + 1) qs)
        unfolding EachAt
        all_apart f j l =
            let c = rw (z, more_places) at ((g.going f).apart j l) in
            (record { no_common = λ a b u v q. c.0 a u (omega arith) (omega arith) }, c.1)

        -- the block is still what it was
        versioned : Fresh x₀ bs ns qs from to → Versioned x p n at
        versioned f =
            let o = g.going f in
            let q = o.stays i h in
            let l = ok.listed.lie i h in
            let b = bytes_stay x₀ x p q in
            record {
              lies = omega (arith, size_stays x₀ x p q, l.0, g.long);
              is_block = kind_stays x₀ x p q ∙ l.1;
              size = n_is ∙ sym (text_size_lem x₀ p) ∙ ap (λ (r : Bytes). length (by_bytes.text r)) (sym b) ∙ text_size_lem x p;
              follows = λ v. eqb-false last_sequence (record_sequence (bytes_at x₀ p)) (rw e at (follows_here f).0) (sym v ∙ ap record_sequence b);
              apart = rw sized at (all_apart f i h).0;
            }

        abbrev version : Bytes
        version = new_version (record { block = bytes_at x₀ p; text = part after s n })

        after_long : length after ≡ total ns
        after_long =
            ap length after_is ∙ length_put W from text (omega (arith, ok.range, ok.within, whole_long)) ∙ whole_long

        version_long : length version ≡ block.header_size + n
        version_long =
            version_size (record { block = bytes_at x₀ p; text = part after s n })
            ∙ ap (λ m. block.header_size + m) (part_length after s n (omega (arith, after_long, position_within g.position in_sizes)))

        -- its data is its part of the whole
        data_is : (o : Going x₀ bs ns qs from to after x s k i)
            → put ((by_place x).text p) (max s from - s) (part text (max s from - from) (min (s + n) to - max s from)) ≡ part after s n
        data_is o =
            let b = bytes_stay x₀ x p (o.stays i h) in
            let old : (by_place x).text p ≡ part W s n =
            sym ((place_views x).text p) ∙ ap by_bytes.text b ∙ (place_views x₀).text p ∙ sym (here o.texts) in
            let meet = held_meets from to s n e in
            let inside = position_within g.position in_sizes in
            let w = part_shared W from text (omega (arith, ok.range, ok.within, whole_long)) s n (omega (arith, whole_long)) (omega (arith, ok.range)) in
            rw (old, ok.range, after_is) (sym w)

        pub storing_on : (y : Bytes) → length y ≡ length x
            → (Versioned x p n at
            → y ≡ put x at (new_version (record {
              block = bytes_at x p;
              text = put ((by_place x).text p) (max s from - s) (part text (max s from - from) (min (s + n) to - max s from));
            })))
            → Storing x₀ bs ns qs from to text y (s + n) (k + 1) (i + 1)
        unfolding pair_stores store_all
        storing_on y l stored = record {
          position = position_next g.position in_sizes;
          long = l ∙ g.long;
          count = omega (arith, g.count, ap length z);
          ends = both_end.1;
          going = λ f.
              let o = g.going f in
              let b = bytes_stay x₀ x p (o.stays i h) in
              let is : y ≡ put x at version = stored (versioned f) ∙ rw (b, data_is o) in
              record {
                stays = λ j m.
                    rw is (part_outside x at version (rw version_long storing_fits) (get_or bs j 0) (size_at x₀ (get_or bs j 0)) (rw version_long (all_apart f j m).0) ∙ o.stays j m);
                apart = λ j m. (all_apart f j m).1;
                follows = (follows_here f).1;
                texts = behind o.texts;
                left = rw is (rw (changes_here, e, more_places) at o.left);
              };
        }
