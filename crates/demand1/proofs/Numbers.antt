-- By which numbers each call answers: those of the rows that it asks.
use Rattle.std.specs.Prelude.{ℕ, ◌≡◌, refl, true}
use Rattle.std.proofs.Common.{inl, inr}
use mathlib.Core.List.{List, [], ◌∷◌, map, Memᴰ}
use Rattle.format.specs.Bytes.{Bytes}
use Rattle.volume.specs.Lists.{all}
use Rattle.volume_laws.specs.Tests.{true→T}
use Rattle.volume_laws.specs.Lists.{all_mem}
use Rattle.calls.specs.Storing.{is_among}
use Rattle.calls.specs.declared.Descriptor.{Descriptor}
use Rattle.calls_laws.specs.Unused.{among}
use Rattle.demand1.specs.Table.{Row, Answers, format_rows, mount_rows, area_report_rows, lookup_rows, open_rows, read_rows, create_rows, append_rows, unlink_rows}
use Rattle.demand1.specs.Table.{overwrite_rows, rename_rows, collect_rows}
use Rattle.demand1.specs.Table.{Exactly}
use Rattle.demand1.specs.Words.{format_numbers, report_numbers, area_report_numbers, path_numbers, read_numbers, create_numbers, append_numbers, unlink_numbers}
use Rattle.demand1.specs.Words.{overwrite_numbers, rename_numbers, collect_numbers}
use Rattle.demand1.specs.Words.{Numbers}

-- 0, or the number of a row
abbrev numbers_of : List Row → List ℕ
numbers_of rs = 0 ∷ map (λ r. r.number) rs

answers_among : (rs : List Row) (n : ℕ) → Answers rs n → Memᴰ n (numbers_of rs)
unfolding Answers
answers_among [] n a = Memᴰ.head a
answers_among (r ∷ rs) n (inl a) = Memᴰ.tail (Memᴰ.head a.1)
answers_among (r ∷ rs) n (inr a) = more (answers_among rs n a.1)
  where
    more : Memᴰ n (numbers_of rs) → Memᴰ n (numbers_of (r ∷ rs))
    more (Memᴰ.head e) = Memᴰ.head e
    more (Memᴰ.tail m) = Memᴰ.tail (Memᴰ.tail m)

-- rows whose numbers are all among some numbers, by a test that computes
answers_within : (rs : List Row) (l : List ℕ) → all (λ k. is_among k l) (numbers_of rs) ≡ true → (n : ℕ) → Answers rs n → Memᴰ n l
answers_within rs l e n a = among n l (all_mem (λ k. is_among k l) (numbers_of rs) (true→T e) (answers_among rs n a))

pub numbers : (image : Bytes) (ds : List Descriptor) → Exactly image ds → Numbers image ds
unfolding is_among all
numbers image ds x = record {
  format = answers_within (format_rows image ds) format_numbers refl _ x.format;
  report = answers_within (mount_rows image ds) report_numbers refl _ x.report;
  area_report_lem = λ i k. answers_within (area_report_rows image ds i) area_report_numbers refl _ (x.area_report_lem i k);
  lookup = λ base path. answers_within (lookup_rows image ds base path) path_numbers refl _ (x.lookup base path);
  opened = λ base path. answers_within (open_rows image ds base path) path_numbers refl _ (x.opened base path);
  read = λ id position room. answers_within (read_rows image ds id position) read_numbers refl _ (x.read id position room);
  create = λ base path kind. answers_within (create_rows image ds base path kind) create_numbers refl _ (x.create base path kind);
  append = λ base path text. answers_within (append_rows image ds base path text) append_numbers refl _ (x.append base path text);
  overwrite = λ base path offset text.
      answers_within (overwrite_rows image ds base path offset text) overwrite_numbers refl _ (x.overwrite base path offset text);
  unlink = λ base path. answers_within (unlink_rows image ds base path) unlink_numbers refl _ (x.unlink base path);
  rename = λ base old new. answers_within (rename_rows image ds base old new) rename_numbers refl _ (x.rename base old new);
  collect = answers_within (collect_rows image ds) collect_numbers refl _ x.collect;
  tree = answers_within (mount_rows image ds) report_numbers refl _ x.tree;
}
