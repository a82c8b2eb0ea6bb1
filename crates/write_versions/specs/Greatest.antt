-- The search for a block of the range with the greatest sequence.
use Rattle.std.specs.Prelude.{ℕ, suc, ◌+◌, ◌≤◌, ◌<◌, ◌≡◌, Bool, cond, ◌&&◌, ◌||◌, List, ◌∷◌, map, length, drop, get_or, eqb}
use Rattle.std.proofs.Math.Path.{refl, sym}
use Rattle.std.proofs.Common.{ap, ◌∙◌, arith, drop_of_length-le, drop-cons, eq-eqb, ne_eqb, eqb-true}
use Rattle.std.proofs.Math.Bool.{true, false, not}
use Rattle.std.proofs.lemmas.List.{length-map}
use Rattle.std.proofs.lemmas.Bool.{eqb-false}
use Rattle.format.specs.Bytes.{Bytes}
use Rattle.format.specs.Record.{record_sequence}
use Rattle.volume.specs.View.{by_bytes}
use Rattle.volume.specs.Lists.{all}
use Rattle.calls.specs.Image.{part}
use Rattle.calls.specs.Storing.{is_among}
use Rattle.calls.specs.Rewrite.{last_sequence}
use Rattle.calls.specs.Overwrite.{Change, holds_byte, changes_from}
use Rattle.volume_laws.specs.Lists.{get_d_map}
use Rattle.record_places.specs.Place.{bytes_at}
use Rattle.record_places.specs.Laws.{place_views}
use Rattle.file_list.specs.Listing.{data_size, Listed}
use Rattle.write_versions.specs.Held.{Position, position_begins, position_next}

pub eqb_comm : (a b : ℕ) → eqb a b ≡ eqb b a
eqb_comm a b = go (eqb a b) refl
  where
    go : (t : Bool) → eqb a b ≡ t → t ≡ eqb b a
    go true e = sym (eq-eqb b a (sym (eqb-true a b e)))
    go false e = sym (ne_eqb b a (λ q. eqb-false a b e (sym q)))

-- the sizes of listed blocks
pub listed_size : {image : Bytes} {bs ns : List ℕ} → Listed image bs ns → (i : ℕ) → i < length bs → get_or ns i 0 ≡ data_size image (get_or bs i 0)
listed_size {image} {bs} {ns} l i h = ap (λ (m : List ℕ). get_or m i 0) l.sizes ∙ get_d_map (data_size image) bs i 0 0 h

-- by bytes as by place
pub text_size_lem : (image : Bytes) (p : ℕ) → length (by_bytes.text (bytes_at image p)) ≡ data_size image p
text_size_lem image p = ap length ((place_views image).text p)

module _ (image : Bytes) (from to : ℕ) (after : Bytes) where
  abbrev records : ℕ → List ℕ → List Change
  records s bs = changes_from from to after s (map (bytes_at image) bs)

  abbrev pub greatest_from : ℕ → List ℕ → Bool
  greatest_from s bs = is_among last_sequence (map (λ c. record_sequence c.block) (records s bs))

  pub greatest_step : (s p n : ℕ) (bs : List ℕ) → n ≡ data_size image p
      → greatest_from s (p ∷ bs) ≡ ((holds_byte from to s n && eqb last_sequence (record_sequence (bytes_at image p))) || greatest_from (s + n) bs)
  unfolding changes_from is_among all
  greatest_step s p n bs e = rw (text_size_lem image p, ← e) (go (holds_byte from to s n))
    where
      pick : (t : Bool) (l : Bool) → not (not t && l) ≡ (t || not l)
      pick true l = refl
      pick false l = refl

      go : (t : Bool)
          → is_among last_sequence (map (λ c. record_sequence c.block)
          (cond t (record { block = bytes_at image p; text = part after s n } ∷ records (s + n) bs) (records (s + n) bs)))
          ≡ ((t && eqb last_sequence (record_sequence (bytes_at image p))) || greatest_from (s + n) bs)
      go true = pick (eqb last_sequence (record_sequence (bytes_at image p))) _
      go false = refl

-- nothing was found before the block i, which begins at s
pub record Searching (image : Bytes) (from to : ℕ) (bs ns : List ℕ) (s i : ℕ) : Type 0 where
  pub position : Position ns s i
  pub so_far : (after : Bytes) → greatest_from image from to after 0 bs ≡ greatest_from image from to after s (drop i bs)

pub listed_long : {image : Bytes} {bs ns : List ℕ} → Listed image bs ns → length ns ≡ length bs
listed_long {image} {bs} l = ap length l.sizes ∙ length-map bs (data_size image)

module _ {image : Bytes} {from to : ℕ} {bs ns : List ℕ} (listed : Listed image bs ns) where
  pub searching_begins : Searching image from to bs ns 0 0
  searching_begins = record { position = position_begins ns; so_far = λ after. refl }

  module _ {s i : ℕ} (g : Searching image from to bs ns s i) where
    module _ (h : i < length bs) (r : Bool)
        (is : r ≡ (holds_byte from to s (get_or ns i 0) && eqb last_sequence (record_sequence (bytes_at image (get_or bs i 0))))) where
      step : (after : Bytes) → greatest_from image from to after 0 bs ≡ (r || greatest_from image from to after (s + get_or ns i 0) (drop (suc i) bs))
      step after =
          g.so_far after ∙ rw (drop-cons bs i 0 h, is)
          (greatest_step image from to after s (get_or bs i 0) (get_or ns i 0) (drop (suc i) bs) (listed_size listed i h))

      pub searching_found : r ≡ true → (after : Bytes) → true ≡ greatest_from image from to after 0 bs
      searching_found e after = sym (rw e at (step after))

      pub searching_on : r ≡ false → Searching image from to bs ns (s + get_or ns i 0) (i + 1)
      searching_on e =
          let z : i + 1 ≡ suc i = omega arith in
          record {
            position = position_next g.position (omega (arith, listed_long listed));
            so_far = λ after. rw z (rw e at (step after));
          }

    pub searching_ends : length bs ≤ i → (after : Bytes) → false ≡ greatest_from image from to after 0 bs
    unfolding changes_from is_among all
    searching_ends h after = sym (g.so_far after ∙ rw (drop_of_length-le bs {i = i} h))
