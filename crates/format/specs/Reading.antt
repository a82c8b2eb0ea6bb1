-- How an area is read. Document 01, under that heading.
use Rattle.std.specs.Prelude.{ℕ, zero, suc, ◌+◌, ◌-◌, List, [], ◌∷◌, Bool, cond, ◌&&◌, length, take, drop, eqb}
use Rattle.format.specs.Bytes.{Bytes}
use Rattle.format.specs.AreaHeader.{area_header_size}

-- the size of the acceptable record at the front of some bytes, 0 where there is none
abbrev pub Acceptor : Type 0
Acceptor = Bytes → ℕ

-- an erased byte
abbrev pub ERASED : ℕ
ERASED = 0xff

-- what reading makes of an area: records that are taken, and stretches of skipped bytes
pub data Part : Type 0 where
  taken : Bytes → Part
  stretch : Bytes → Part

-- one more skipped byte in front; "a maximal run of skipped bytes is a stretch"
unfoldable pub skip : ℕ → List Part → List Part
skip b [] = stretch (b ∷ []) ∷ []
skip b (taken r ∷ l) = stretch (b ∷ []) ∷ taken r ∷ l
skip b (stretch s ∷ l) = stretch (b ∷ s) ∷ l

-- "If an acceptable record starts here, take it and go on at its end; otherwise skip one byte":
-- the parts of some bytes, of which the first n are the rest of a record that was taken
unfoldable pub parts : Acceptor → Bytes → ℕ → List Part
parts size [] n = []
parts size (b ∷ t) (suc n) = parts size t n
parts size (b ∷ t) zero = elim (size (b ∷ t)) [ zero ↦ skip b (parts size t zero) | suc n ↦ taken (b ∷ take n t) ∷ parts size t n ]

-- a record that is taken, with its place in the area
pub record Placed : Type 0 where
  pub place : ℕ
  pub bytes : Bytes

-- the records among the parts from a place on
unfoldable pub placed : ℕ → List Part → List Placed
placed p [] = []
placed p (taken r ∷ l) = record { place = p; bytes = r } ∷ placed (p + length r) l
placed p (stretch s ∷ l) = placed (p + length s) l

-- how many erased bytes stand at the end
unfoldable pub erased_end : Bytes → ℕ
erased_end [] = 0
erased_end (b ∷ l) = cond (eqb (erased_end l) (length l) && eqb b ERASED) (suc (erased_end l)) (erased_end l)

-- "The part of the last stretch that is FF up to the area's end is free space and isn't counted"
unfoldable pub free_size : List Part → ℕ
free_size [] = 0
free_size (stretch s ∷ []) = erased_end s
free_size (taken r ∷ []) = 0
free_size (q ∷ r ∷ l) = free_size (r ∷ l)

-- a damaged stretch, with its place in the area
pub record Stretch : Type 0 where
  pub place : ℕ
  pub size : ℕ

-- n bytes of damage at a place, "if anything"
unfoldable pub damaged_bytes : ℕ → ℕ → List Stretch
damaged_bytes p zero = []
damaged_bytes p (suc n) = record { place = p; size = suc n } ∷ []

-- "What is left of it, if anything, and every other stretch is damage"
unfoldable pub damaged : ℕ → List Part → List Stretch
damaged p [] = []
damaged p (taken r ∷ l) = damaged (p + length r) l
damaged p (stretch s ∷ []) = damaged_bytes p (length s - erased_end s)
damaged p (stretch s ∷ q ∷ l) = record { place = p; size = length s } ∷ damaged (p + length s) (q ∷ l)

unfoldable pub total_size : List Stretch → ℕ
total_size [] = 0
total_size (d ∷ l) = d.size + total_size l

-- T-08: "the offset of the first damage stretch and its length (both 0 if there is none)"
unfoldable pub first_stretch : List Stretch → Stretch
first_stretch [] = record { place = 0; size = 0 }
first_stretch (d ∷ l) = d

-- "Start at 24": the parts of an area, from its bytes
unfoldable pub area_parts : Acceptor → Bytes → List Part
area_parts size area = parts size (drop area_header_size area) 0

-- an area reads as these records
unfoldable pub area_records : Acceptor → Bytes → List Placed
area_records size area = placed area_header_size (area_parts size area)

unfoldable pub area_damage : Acceptor → Bytes → List Stretch
area_damage size area = damaged area_header_size (area_parts size area)

-- where free space starts; the area's length where there is none
unfoldable pub area_free : Acceptor → Bytes → ℕ
area_free size area = length area - free_size (area_parts size area)

-- "An area is clean when it has no damage"
unfoldable pub area_clean : Acceptor → Bytes → Bool
area_clean size area = eqb (length (area_damage size area)) 0
