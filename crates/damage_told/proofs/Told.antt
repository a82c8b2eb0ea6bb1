-- What the numbers tell: of an area, from how its parts split it; and of the report, area after area.
use Rattle.std.specs.Prelude.{ℕ, ◌+◌, ◌-◌, ◌≤◌, ◌<◌, ◌≡◌, ◌≢◌, ◌⊎◌, true, drop, eqb}
use Rattle.std.proofs.Math.Path.{refl, sym, ap}
use Rattle.std.proofs.Common.{◌∙◌, ⊎_elim, length-drop, eqb-true, ne_eqb}
use Rattle.std.proofs.Math.Logic.{inl, inr}
use mathlib.Core.List.Memᴰ
use mathlib.Core.List.{List, [], ◌∷◌, ◌++◌, Memᴰ}
use native.Mathlib.Omega.{arith}
use Rattle.std.proofs.Math.Decide.{ℕ_discrete, dec_lt}
use Rattle.std.proofs.Math.ListN.{length, length-append, length-map}
use Rattle.format.specs.Bytes.{Bytes, byte_at}
use Rattle.format.specs.Record.{record_size}
use Rattle.format.specs.AreaHeader.{area_header_size, is_file_area}
use Rattle.format.specs.Reading.{ERASED, Placed, free_size, Stretch, total_size, first_stretch, area_parts, area_records, area_damage, area_free, area_clean}
use Rattle.format_laws.specs.Bytes.{drop_byte}
use Rattle.format_laws.specs.Reading.{records_lawful, joined, parts_joined, total_append}
use Rattle.volume_laws.specs.Lists.{keep_mem}
use Rattle.image_laws.specs.Laws.{part_length}
use Rattle.calls.specs.Areas.{area_bytes, file_areas}
use Rattle.calls.specs.Mount.{mount_number}
use Rattle.calls.specs.Report.{in_image, damage_in, mounted_report, report_of}
use Rattle.calls.specs.declared.Descriptor.{Descriptor}
use Rattle.calls_laws.specs.Checks.{passes, area_fits}
use Rattle.damage_told.specs.Words.{InRecord, IsDamaged, InStretch, Run, FirstRun, Ascending, none, next, record_bytes, AreaTold, AllClean, sum_over, ReportTold, Reported}
use Rattle.damage_told.specs.Runs.{parts_alternate, parts_sum, parts_split, InStretches, Split}
use Rattle.damage_told.specs.Free.{free_erased, free_behind}

-- ---- stretches

-- of two stretches that stand apart one ends before the other starts, or they are the same
abbrev Ordered : Stretch → Stretch → Type 0
Ordered d e = (d ≡ e) ⊎ ((d.place + d.size < e.place) ⊎ (e.place + e.size < d.place))

ordered : {l : List Stretch} → Ascending l → (d e : Stretch) → Memᴰ d l → Memᴰ e l → Ordered d e
ordered none d e m n = absurd (Memᴰ.not-nil m)
ordered (next {d = c} {l} f a) d e m n = go (Memᴰ.cases_cons m) (Memᴰ.cases_cons n) (ordered a d e)
  where
    go : (d ≡ c) ⊎ Memᴰ d l → (e ≡ c) ⊎ Memᴰ e l → (Memᴰ d l → Memᴰ e l → Ordered d e) → Ordered d e
    go (inl p) (inl q) ih = inl (p ∙ sym q)
    go (inl p) (inr n) ih = inr (inl (rw p (f e n)))
    go (inr m) (inl q) ih = inr (inr (rw q (f d m)))
    go (inr m) (inr n) ih = ih m n

-- what lies in one of them lies in no other, and not right before or behind it
alone : (d e : Stretch) → Ordered d e → (p : ℕ) → InStretch e p → (d.place ≤ p + 1) → (p ≤ d.place + d.size) → InStretch d p
alone d e (inl q) p i h g = rw q i
alone d e (inr (inl k)) p i h g = absurd (omega (arith, i.0))
alone d e (inr (inr k)) p i h g = absurd (omega (arith, i.1))

-- the first of them starts first
starts_first : {l : List Stretch} → Ascending l → (e : Stretch) → Memᴰ e l → (first_stretch l).place ≤ e.place
unfolding first_stretch
starts_first none e m = absurd (Memᴰ.not-nil m)
starts_first (next {d = c} {l} f a) e m = ⊎_elim (λ q. rw q (omega arith)) (λ n. omega (arith, f e n)) (Memᴰ.cases_cons m)

-- the first, where there is one
first_or_none : (l : List Stretch) → (l ≡ []) ⊎ Memᴰ (first_stretch l) l
unfolding first_stretch
first_or_none [] = inl refl
first_or_none (d ∷ l) = inr (Memᴰ.head refl)

none_first : {l : List Stretch} → l ≡ [] → ((first_stretch l).place ≡ 0) × ((first_stretch l).size ≡ 0)
unfolding first_stretch
none_first e = rw e (refl, refl)

no_members : (l : List Stretch) → eqb (length l) 0 ≡ true → l ≡ []
no_members [] q = refl
no_members (d ∷ l) q = absurd (omega (arith, eqb-true (length (d ∷ l)) 0 q))

-- ---- an area

clean_none : (area : Bytes) → area_clean record_size area ≡ true → area_damage record_size area ≡ []
unfolding area_clean
clean_none area e = no_members (area_damage record_size area) e

none_clean : (area : Bytes) → area_damage record_size area ≡ [] → area_clean record_size area ≡ true
unfolding area_clean
none_clean area e = rw e

module _ (area : Bytes) (long : area_header_size ≤ length area) where
  abbrev damage : List Stretch
  damage = area_damage record_size area

  abbrev records : List Placed
  records = area_records record_size area

  abbrev free : ℕ
  free = free_size (area_parts record_size area)

  joined_are : joined (area_parts record_size area) ≡ drop area_header_size area
  unfolding area_parts
  joined_are = parts_joined record_size records_lawful.inside (drop area_header_size area) 0 (omega arith)

  bytes_are : length (joined (area_parts record_size area)) ≡ length area - area_header_size
  bytes_are = ap length joined_are ∙ length-drop area_header_size area

  parts_make : record_bytes records + total_size damage + free ≡ length area - area_header_size
  unfolding area_records area_damage
  parts_make = parts_sum area_header_size (area_parts record_size area) ∙ bytes_are

  split : Split area_header_size (area_free record_size area) records damage
  unfolding area_records area_damage area_free area_parts
  split = parts_split (parts_alternate record_size (drop area_header_size area) 0) area_header_size (length area - free) (omega (arith, bytes_are, parts_make))

  free_inside : area_free record_size area ≤ length area
  unfolding area_free
  free_inside = omega arith

  byte_is : (p : ℕ) → area_header_size ≤ p → byte_at (joined (area_parts record_size area)) (p - area_header_size) ≡ byte_at area p
  byte_is p h =
      let w : area_header_size + (p - area_header_size) ≡ p = omega arith in
      rw joined_are (drop_byte area_header_size area (p - area_header_size) ∙ ap (byte_at area) w)

  free_space : (p : ℕ) → area_free record_size area ≤ p → p < length area → (byte_at area p ≡ ERASED) × ¬ InRecord area p
  unfolding area_free
  free_space p h l =
      let g : area_header_size ≤ p = omega (arith, split.fits) in (
        sym (byte_is p g) ∙ free_erased (area_parts record_size area) (p - area_header_size) (omega (arith, bytes_are)) (omega (arith, bytes_are)),
        λ r. omega (arith, r.3, (split.records r.0 r.1).1),
      )

  before_free : IsDamaged area (area_free record_size area - 1) → byte_at area (area_free record_size area - 1) ≢ ERASED
  unfolding area_free area_records area_parts
  before_free h e =
      let i = length area - free - 1 - area_header_size in
      let b = byte_is (length area - free - 1) h.0 ∙ e in
      let k = free_behind (parts_alternate record_size (drop area_header_size area) 0) area_header_size i (omega (arith, bytes_are, h.0)) b in
      h.2 (k.0, k.1, omega (arith, k.2, h.0), omega (arith, k.3, h.0))

  in_no_record : (d : Stretch) → Memᴰ d damage → (p : ℕ) → InStretch d p → ¬ InRecord area p
  in_no_record d m p i r =
      ⊎_elim (λ k. omega (arith, i.0, i.1, r.2, r.3)) (λ k. omega (arith, i.0, i.1, r.2, r.3)) (split.apart r.0 r.1 d m)

  is_damaged_lem : (d : Stretch) → Memᴰ d damage → (p : ℕ) → InStretch d p → IsDamaged area p
  is_damaged_lem d m p i =
      let k = split.stretches d m in
      (omega (arith, k.0, i.0), omega (arith, k.1, i.1, free_inside), in_no_record d m p i)

  in_stretch : (p : ℕ) → IsDamaged area p → InStretches damage p
  in_stretch p h = ⊎_elim (λ r. absurd (h.2 r)) (λ d. d) (split.covers p h.0 h.1)

  -- a damaged byte in a stretch, or right before or behind it, is in it
  near_in : (d : Stretch) → Memᴰ d damage → (p : ℕ) → IsDamaged area p → d.place ≤ p + 1 → p ≤ d.place + d.size → InStretch d p
  near_in d m p h a b = let s = in_stretch p h in alone d s.0 (ordered split.order d s.0 m s.1) p s.2 a b

  is_run : (d : Stretch) → Memᴰ d damage → Run area d
  is_run d m =
      let k = split.stretches d m in
      record {
        some = k.2;
        all = is_damaged_lem d m;
        before = λ h. let i = near_in d m (d.place - 1) h (omega arith) (omega arith) in omega (arith, i.0, k.0);
        behind = λ h. let i = near_in d m (d.place + d.size) h (omega arith) (omega arith) in omega (arith, i.1);
      }

  first_run : Memᴰ (first_stretch damage) damage → FirstRun area (first_stretch damage)
  first_run m = record {
    run = is_run (first_stretch damage) m;
    first = λ p l h. let s = in_stretch p h in omega (arith, l, starts_first split.order s.0 s.1, s.2.0);
  }

  none_damaged : damage ≡ [] → (p : ℕ) → ¬ IsDamaged area p
  none_damaged e p h = let s = in_stretch p h in Memᴰ.not-nil (rw e at s.1)

  no_damage : ((p : ℕ) → ¬ IsDamaged area p) → damage ≡ []
  no_damage h =
      let d = first_stretch damage in
      ⊎_elim (λ e. e) (λ m. absurd (h d.place (is_damaged_lem d m d.place (omega arith, omega (arith, (split.stretches d m).2))))) (first_or_none damage)

  abbrev NotFree : ℕ → Type 0
  NotFree p = (q : ℕ) × (p ≤ q) × (q < length area) × (InRecord area q ⊎ (byte_at area q ≢ ERASED))

  not_free : (p : ℕ) → IsDamaged area p → NotFree p
  not_free p h =
      let q = area_free record_size area - 1 in
      let l : (area_header_size ≤ q) × (p ≤ q) × (q < area_free record_size area) = (omega (arith, h.0, h.1), omega (arith, h.1), omega (arith, h.1)) in
      let found : InRecord area q ⊎ (byte_at area q ≢ ERASED) =
      ⊎_elim inl (λ s. inr (before_free (is_damaged_lem s.0 s.1 q s.2))) (split.covers q l.0 l.2) in
      (q, l.1, omega (arith, l.2, free_inside), found)

  before_it : (p : ℕ) → NotFree p → Dec (p < area_free record_size area) → p < area_free record_size area
  before_it p n (yes l) = l
  before_it p n (no l) =
      let f = free_space n.0 (omega (arith, n.1)) n.2 in
      absurd (⊎_elim (λ r. f.1 r) (λ b. b f.0) n.3)

  told : AreaTold area
  told = record {
    runs = is_run;
    found = in_stretch;
    order = split.order;
    first = λ h. ⊎_elim (λ e. absurd (omega (arith, h, (none_first e).1))) first_run (first_or_none damage);
    none = λ z.
        let some : Memᴰ (first_stretch damage) damage → ⊥ = λ m. omega (arith, z, (split.stretches (first_stretch damage) m).2) in
        ⊎_elim (λ e. ((none_first e).0, none_damaged e)) (λ m. absurd (some m)) (first_or_none damage);
    empty = (none_damaged, no_damage);
    clean = (λ e. none_damaged (clean_none area e), λ h. none_clean area (no_damage h));
    free = free_space;
    last = before_free;
    damaged = λ p. (λ h. (h.0, h.2, not_free p h), λ k. (k.0, before_it p k.2 (dec_lt p (area_free record_size area)), k.1));
    sum = omega (arith, parts_make, long);
  }

pub area_told : (area : Bytes) → area_header_size ≤ length area → AreaTold area
area_told = told

-- ---- the report

module _ (image : Bytes) where
  abbrev damage_here : Descriptor → List Stretch
  damage_here d = area_damage record_size (area_bytes image d)

  -- the first area of fs with damage, and where the first of all stretches is
  record Sought (fs : List Descriptor) : Type 0 where
    pub before : List Descriptor
    pub area : Descriptor
    pub behind : List Descriptor
    pub split : fs ≡ before ++ (area ∷ behind)
    pub clean : AllClean image before
    pub there : Memᴰ (first_stretch (damage_here area)) (damage_here area)
    pub place : (first_stretch (damage_in image fs)).place ≡ area.offset + (first_stretch (damage_here area)).place
    pub size : (first_stretch (damage_in image fs)).size ≡ (first_stretch (damage_here area)).size

  abbrev AnyDamage : List Descriptor → Type 0
  AnyDamage fs = ((damage_in image fs ≡ []) × AllClean image fs) ⊎ Sought fs

  all_clean_lem : (d : Descriptor) (fs : List Descriptor) → damage_here d ≡ [] → AllClean image fs → AllClean image (d ∷ fs)
  all_clean_lem d fs e c f m = ⊎_elim (λ q. rw q (none_clean (area_bytes image d) e)) (c f) (Memᴰ.cases_cons m)

  sought : (fs : List Descriptor) → AnyDamage fs
  unfolding damage_in first_stretch
  sought [] = inl (refl, λ d m. absurd (Memᴰ.not-nil m))
  sought (d ∷ fs) = go (damage_here d) refl (sought fs)
    where
      go : (l : List Stretch) → damage_here d ≡ l → AnyDamage fs → AnyDamage (d ∷ fs)
      go [] e (inl n) = inl (rw e n.0, all_clean_lem d fs e n.1)
      go [] e (inr s) = inr (record {
        before = d ∷ s.before;
        area = s.area;
        behind = s.behind;
        split = ap (λ (l : List Descriptor). d ∷ l) s.split;
        clean = all_clean_lem d s.before e s.clean;
        there = s.there;
        place = rw e s.place;
        size = rw e s.size;
      })
      go (c ∷ l) e ih = inr (record {
        before = [];
        area = d;
        behind = fs;
        split = refl;
        clean = λ f m. absurd (Memᴰ.not-nil m);
        there = rw e (Memᴰ.head refl);
        place = rw e refl;
        size = rw e refl;
      })

  total_image : (o : ℕ) (l : List Stretch) → total_size (in_image o l) ≡ total_size l
  unfolding total_size
  total_image o [] = refl
  total_image o (d ∷ l) = ap (λ (n : ℕ). d.size + n) (total_image o l)

  counts : (fs : List Descriptor) → (length (damage_in image fs) ≡ sum_over (λ d. length (damage_here d)) fs)
      × (total_size (damage_in image fs) ≡ sum_over (λ d. total_size (damage_here d)) fs)
  unfolding damage_in total_size sum_over
  counts [] = (refl, refl)
  counts (d ∷ fs) =
      let l = in_image d.offset (damage_here d) in
      let c = counts fs in (
        omega (arith, length-append l (damage_in image fs), length-map {B = Stretch} (damage_here d) (λ e. record { place = d.offset + e.place; size = e.size }), c.0),
        omega (arith, total_append l (damage_in image fs), total_image d.offset (damage_here d), c.1),
      )

  module _ (ds : List Descriptor) (mounts : mount_number image ds ≡ 0) where
    report_is : report_of image ds ≡ mounted_report image ds
    unfolding report_of
    report_is = rw mounts

    abbrev fs : List Descriptor
    fs = file_areas image ds

    -- a file area's bytes are as many as its descriptor says
    file_long : (d : Descriptor) → Memᴰ d fs → (area_header_size ≤ d.length) × (length (area_bytes image d) ≡ d.length)
    unfolding file_areas
    file_long d m =
        let k = (keep_mem (λ d. is_file_area d.length (area_bytes image d)) ds m).0 in
        let h = area_fits image ds (passes image ds mounts).described d k in
        (h.0, part_length image d.offset d.length h.1)

    -- where no file area has damage
    none_told : damage_in image fs ≡ [] → AllClean image fs → ReportTold image ds (mounted_report image ds)
    unfolding mounted_report total_size
    none_told e c = record {
      stretches = (counts fs).0;
      skipped = (counts fs).1;
      none = (λ z. c, λ c. (none_first e).1);
      zeros = λ z. ((none_first e).0, ap length e, ap total_size e);
      first = λ h. absurd (omega (arith, h, (none_first e).1));
    }

    -- where one has
    some_told : Sought fs → ReportTold image ds (mounted_report image ds)
    unfolding mounted_report
    some_told s = record {
      stretches = (counts fs).0;
      skipped = (counts fs).1;
      none = (λ z. absurd (omega (arith, z, some)), λ c. absurd (not_clean (c s.area there)));
      zeros = λ z. absurd (omega (arith, z, some));
      first = λ h. record {
        before = s.before;
        area = s.area;
        behind = s.behind;
        split = s.split;
        clean = s.clean;
        stretch = f;
        is = refl;
        run = first_run bytes long s.there;
        place = s.place;
        size = s.size;
        starts = omega (arith, s.place, inside.0);
        ends = omega (arith, s.place, s.size, inside.1, (file_long s.area there).1);
      };
    }
      where
        bytes : Bytes
        bytes = area_bytes image s.area

        f : Stretch
        f = first_stretch (damage_here s.area)

        there : Memᴰ s.area fs
        there = rw s.split (Memᴰ.append_right s.before (Memᴰ.head refl))

        long : area_header_size ≤ length bytes
        long = let h = file_long s.area there in omega (arith, h.0, h.1)

        inside : (area_header_size ≤ f.place) × (f.place + f.size ≤ length bytes) × (0 < f.size)
        inside =
            let k = (split bytes long).stretches f s.there in
            (k.0, omega (arith, k.1, free_inside bytes long), k.2)

        some : 0 < (first_stretch (damage_in image fs)).size
        some = omega (arith, s.size, inside.2)

        not_clean : area_clean record_size bytes ≡ true → ⊥
        not_clean e = omega (arith, inside.2, (none_first (clean_none bytes e)).1)

    reported : ReportTold image ds (report_of image ds)
    reported = rw report_is (⊎_elim (λ n. none_told n.0 n.1) some_told (sought fs))

pub report_told : (image : Bytes) (ds : List Descriptor) → Reported image ds (report_of image ds)
unfolding report_of mounted_report
report_told image ds = go (ℕ_discrete (mount_number image ds) 0)
  where
    go : Dec (mount_number image ds ≡ 0) → Reported image ds (report_of image ds)
    go (yes m) = record { mounted = λ z. reported image ds m; refused = λ n. absurd (n (rw m refl)) }
    go (no m) = rw (ne_eqb (mount_number image ds) 0 m) (record { mounted = λ z. absurd (m z); refused = λ n. (refl, refl, refl, refl) })
