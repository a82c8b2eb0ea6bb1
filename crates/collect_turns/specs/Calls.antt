-- Every call that writes, accepted or refused, can stand in a run, but for a format that is accepted: with that a new run begins (format-shares).
use Rattle.std.specs.Prelude.{ℕ, ◌≡◌, ◌≢◌, List, ◌∷◌}
use Rattle.std.proofs.Math.Decide.{ℕ_discrete}
use Rattle.format.specs.Bytes.{Bytes}
use Rattle.format_laws.specs.Crc.{Octets}
use Rattle.calls.specs.Format.{format_number, image_formatted}
use Rattle.calls.specs.Create.{create_of, image_created}
use Rattle.calls.specs.Append.{append_of, image_appended}
use Rattle.calls.specs.Unlink.{unlink_of, image_unlinked}
use Rattle.calls.specs.Rename.{rename_of, image_renamed}
use Rattle.calls.specs.Overwrite.{overwrite_of, image_overwritten}
use Rattle.calls.specs.Collect.{collect_of, image_collected}
use Rattle.calls.specs.declared.Descriptor.{Descriptor}
use Rattle.demand2.specs.Store.{SameHeaders}
use Rattle.demand2_collect.proofs.Collect.{collect}
use Rattle.demand2_collect.specs.Demand2.{Demand2}
use Rattle.demand2_collect.proofs.Demand2.{demand2}
use Rattle.collect_turns.specs.Words.{Run, collects}

-- accepted or refused; names, data and image are bytes
pub record CallsKeep (image : Bytes) (ds : List Descriptor) : Type 0 where
  pub create : (base path : Bytes) (kind : ℕ) → Octets base → Octets path → SameHeaders image (image_created image ds base path kind) ds
  pub append : (base path text : Bytes) → Octets text → SameHeaders image (image_appended image ds base path text) ds
  pub unlink : (base path : Bytes) → Octets image → SameHeaders image (image_unlinked image ds base path) ds
  pub rename : (base old new : Bytes) → Octets image → Octets base → Octets new → SameHeaders image (image_renamed image ds base old new) ds
  pub overwrite : (base path : Bytes) (offset : ℕ) (text : Bytes) → Octets image → Octets text
      → SameHeaders image (image_overwritten image ds base path offset text) ds
  pub refused_format : format_number image ds ≢ 0 → SameHeaders image (image_formatted image ds) ds
  pub refused_collect : collect_of image ds ≢ 0 → SameHeaders image (image_collected image ds) ds

-- where nothing changed
unchanged : (image image' : Bytes) (ds : List Descriptor) → image' ≡ image → SameHeaders image image' ds
unchanged image image' ds e d m = rw e

pub calls_keep : (image : Bytes) (ds : List Descriptor) → CallsKeep image ds
calls_keep image ds = record {
  create = λ base path kind b p. created base path kind b p (ℕ_discrete (create_of image ds base path kind).number 0);
  append = λ base path text t. appended base path text t (ℕ_discrete (append_of image ds base path text) 0);
  unlink = λ base path o. unlinked base path o (ℕ_discrete (unlink_of image ds base path) 0);
  rename = λ base old new o b p. renamed base old new o b p (ℕ_discrete (rename_of image ds base old new) 0);
  overwrite = λ base path offset text o t. overwritten base path offset text o t (ℕ_discrete (overwrite_of image ds base path offset text) 0);
  refused_format = λ n. unchanged image (image_formatted image ds) ds (is.refused.format n);
  refused_collect = λ n. unchanged image (image_collected image ds) ds (is.refused.collect n);
}
  where
    is : Demand2 image ds
    is = demand2 image ds

    created : (base path : Bytes) (kind : ℕ) → Octets base → Octets path → Dec ((create_of image ds base path kind).number ≡ 0)
        → SameHeaders image (image_created image ds base path kind) ds
    created base path kind b p (yes e) = (is.creates base path kind b p e).stored.headers
    created base path kind b p (no n) = unchanged image (image_created image ds base path kind) ds (is.refused.create base path kind n).0

    appended : (base path text : Bytes) → Octets text → Dec (append_of image ds base path text ≡ 0) → SameHeaders image (image_appended image ds base path text) ds
    appended base path text t (yes e) = (is.appends base path text t e).headers
    appended base path text t (no n) = unchanged image (image_appended image ds base path text) ds (is.refused.append base path text n)

    unlinked : (base path : Bytes) → Octets image → Dec (unlink_of image ds base path ≡ 0) → SameHeaders image (image_unlinked image ds base path) ds
    unlinked base path o (yes e) = (is.unlinks base path o e).stored.headers
    unlinked base path o (no n) = unchanged image (image_unlinked image ds base path) ds (is.refused.unlink base path n)

    renamed : (base old new : Bytes) → Octets image → Octets base → Octets new → Dec (rename_of image ds base old new ≡ 0)
        → SameHeaders image (image_renamed image ds base old new) ds
    renamed base old new o b p (yes e) = (is.renames base old new o b p e).stored.headers
    renamed base old new o b p (no n) = unchanged image (image_renamed image ds base old new) ds (is.refused.rename base old new n)

    overwritten : (base path : Bytes) (offset : ℕ) (text : Bytes) → Octets image → Octets text
        → Dec (overwrite_of image ds base path offset text ≡ 0) → SameHeaders image (image_overwritten image ds base path offset text) ds
    overwritten base path offset text o t (yes e) = (is.overwrites base path offset text o t e).headers
    overwritten base path offset text o t (no n) =
        unchanged image (image_overwritten image ds base path offset text) ds (is.refused.overwrite base path offset text n)

-- a collect that is accepted has a source, with which a run goes on
pub accepted_collect : (image : Bytes) (ds : List Descriptor) → collect_of image ds ≡ 0
    → (s : Descriptor) × ((l : List Descriptor) (image' : Bytes) → Run ds (image_collected image ds) l image' → Run ds image (s ∷ l) image')
accepted_collect image ds accepted =
    let a = collect image ds accepted in
    (a.source, λ l image' r. collects a.scratch a.source accepted a.was_scratch a.chosen r)
