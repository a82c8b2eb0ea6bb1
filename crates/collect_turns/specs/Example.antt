-- Three areas with counts on both sides of the wrap, and four collections of them.
use Rattle.std.specs.Prelude.{◌≡◌, List, [], ◌∷◌, ◌++◌, replicate}
use Rattle.format.specs.Bytes.{Bytes}
use Rattle.format.specs.Ids.{NONE}
use Rattle.format.specs.Encoding.{inode_bytes, area_header}
use Rattle.calls.specs.Areas.{file_areas, scratch_areas}
use Rattle.calls.specs.Collect.{eligible, count_of}
use Rattle.calls.specs.Collect.{image_collected}
use Rattle.calls.specs.declared.Descriptor.{Descriptor}
use Rattle.collect_turns.specs.Words.{Run}

-- areas of 128 bytes
abbrev pub a : Descriptor
a = record { offset = 0; length = 128 }

abbrev pub b : Descriptor
b = record { offset = 128; length = 128 }

abbrev pub c : Descriptor
c = record { offset = 256; length = 128 }

abbrev pub areas : List Descriptor
areas = a ∷ b ∷ c ∷ []

-- a, of count 255, has the root; b, of count 0, is empty; c is scratch, of count 0
unfoldable pub start : Bytes
start =
    area_header 128 255 0
    ++ (inode_bytes 0 0 NONE []
    ++ (replicate 84 0xff
    ++ (area_header 128 0 1 ++ (replicate 104 0xff ++ (area_header 128 0 255 ++ replicate 104 0xff)))))

-- after one, two, three and four collections
unfoldable pub once_collected : Bytes
once_collected = image_collected start areas

unfoldable pub twice : Bytes
twice = image_collected once_collected areas

unfoldable pub thrice : Bytes
thrice = image_collected twice areas

unfoldable pub last : Bytes
last = image_collected thrice areas

-- by computation: 255 precedes 0, so that a is the first; its count is 0 then, and b is the first of the least; then a again, and c
pub record Computed : Type 0 where
  pub run : Run areas start (a ∷ b ∷ a ∷ c ∷ []) last
  pub one_scratch : scratch_areas start areas ≡ c ∷ []
  pub files : eligible (file_areas start areas) c ≡ a ∷ b ∷ []
  pub count_a : count_of start a ≡ 255
  pub count_b : count_of start b ≡ 0
  pub count_c : count_of start c ≡ 0
  pub counts_after : count_of last a ∷ count_of last b ∷ count_of last c ∷ [] ≡ 1 ∷ 1 ∷ 1 ∷ []
