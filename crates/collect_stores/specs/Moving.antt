-- The loop that copies records one behind the other: bytes that are stored stand apart from the records that are copied.
use Rattle.std.specs.Prelude.{ℕ, ◌+◌, ◌≤◌, ◌<◌, ◌≡◌, refl, List, length, take, get_or}
use Rattle.std.proofs.Common.{sym, ◌∙◌, arith, length-append, take_all}
use Rattle.std.proofs.Math.Path.{ap}
use Rattle.format.specs.Bytes.{Bytes}
use Rattle.calls.specs.Image.{put, part}
use Rattle.record_places.specs.Place.{size_at, bytes_at, Lies, AllLie}
use Rattle.image_laws.specs.Apart.{Apart, apart_part, apart_front}
use Rattle.image_laws.specs.Laws.{put_none, length_put, part_outside, put_put}
use Rattle.record_places.specs.Stays.{size_stays, bytes_stay, bytes_long}
use Rattle.collect_stores.specs.Records.{moved, moved_none, moved_more, moved_within}

-- records that can be copied to `to`: they lie in the image, there is room, and none of them is stored over
pub record Movable (x : Bytes) (ps : List ℕ) (to : ℕ) : Type 0 where
  pub lie : AllLie x ps (length ps)
  pub room : to + length (moved x ps) ≤ length x
  pub apart : (i : ℕ) → i < length ps → Apart (get_or ps i 0) (size_at x (get_or ps i 0)) to (length (moved x ps))

-- the image x is x₀ with the first i records copied, and the next goes to `at`
pub record Moving (x₀ : Bytes) (ps : List ℕ) (to : ℕ) (x : Bytes) (at i : ℕ) : Type 0 where
  pub next : at ≡ to + length (moved x₀ (take i ps))
  pub long : length x ≡ length x₀
  pub is : x ≡ put x₀ to (moved x₀ (take i ps))

module _ (x₀ : Bytes) (ps : List ℕ) (to : ℕ) where
  pub moving_begins : Moving x₀ ps to x₀ to 0
  moving_begins = record {
    next = omega (arith, ap length (moved_none x₀));
    long = refl;
    is = sym (rw (moved_none x₀) (put_none x₀ to));
  }

  module _ (x : Bytes) (at i : ℕ) (m : Moving x₀ ps to x at i) (ok : Movable x₀ ps to) where
    pub moving_ends : length ps ≤ i → x ≡ put x₀ to (moved x₀ ps)
    moving_ends h = m.is ∙ rw (take_all i ps h)

    module _ (h : i < length ps) where
      abbrev p : ℕ
      p = get_or ps i 0

      abbrev n : ℕ
      n = size_at x₀ p

      fits : to + length (moved x₀ (take i ps)) ≤ length x₀
      fits = omega (arith, moved_within x₀ ps i, ok.room)

      -- the record of a turn is still there
      stays : part x p n ≡ part x₀ p n
      stays = rw m.is (part_outside x₀ to (moved x₀ (take i ps)) fits p n (apart_front (ok.apart i h) (length (moved x₀ (take i ps))) (moved_within x₀ ps i)))

      size_there : size_at x p ≡ n
      size_there = size_stays x₀ x p stays

      bytes_there : bytes_at x p ≡ bytes_at x₀ p
      bytes_there = bytes_stay x₀ x p stays

      lies_there : Lies x p
      lies_there = omega (arith, size_there, ok.lie i h, m.long)

      long_more : length (moved x₀ (take (i + 1) ps)) ≡ length (moved x₀ (take i ps)) + n
      long_more =
          omega (
            arith,
            ap length (moved_more x₀ ps i h),
            length-append (moved x₀ (take i ps)) (bytes_at x₀ p),
            bytes_long x₀ p (ok.lie i h),
          )

      pub moving_lies : Lies x p
      moving_lies = lies_there

      -- the next one may be copied
      pub moving_room : (p + size_at x p ≤ length x) × (at + size_at x p ≤ length x)
      moving_room =
          let w = moved_within x₀ ps (i + 1) in
          let r = ok.room in
          let l = m.long in
          (lies_there, omega (arith, size_there, long_more, m.next))

      pub moving_apart : Apart p (size_at x p) at (size_at x p)
      moving_apart =
          let w = moved_within x₀ ps (i + 1) in
          rw (size_there, m.next) (apart_part (ok.apart i h) (length (moved x₀ (take i ps))) n (omega (arith, long_more)))

      pub moving_on : Moving x₀ ps to (put x at (part x p (size_at x p))) (at + size_at x p) (i + 1)
      unfolding bytes_at
      moving_on =
          let w = moved_within x₀ ps (i + 1) in
          let r = moving_room in
          let e : part x p (size_at x p) ≡ bytes_at x₀ p = bytes_there in
          let b = bytes_long x₀ p (ok.lie i h) in
          record {
            next = omega (arith, m.next, long_more, size_there);
            long = length_put x at (part x p (size_at x p)) (rw e (omega (arith, r.1, size_there, b))) ∙ m.long;
            is =
                rw (e, m.is, m.next)
                (put_put x₀ to (moved x₀ (take i ps)) (bytes_at x₀ p) (omega (arith, b, long_more, ok.room))
                ∙ ap (put x₀ to) (sym (moved_more x₀ ps i h)));
          }
