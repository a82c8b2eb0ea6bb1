-- Refused calls. Demand 1: "A refused call changes no byte of the image, of an output buffer or of a file handle"; document 01: "A refused
-- answer's other numbers are 0."
use Rattle.std.specs.Prelude.{ℕ, ◌≡◌, refl, ◌≢◌, Bool, true, false, cond, List, eqb}
use Rattle.format.specs.Bytes.{Bytes}
use Rattle.volume.specs.Tree.{Found, found, absent}
use Rattle.volume_laws.specs.Tests.{eqb_differ}
use Rattle.calls.specs.Attempt.{Attempt, goes, refuses}
use Rattle.calls.specs.Mount.{mount_number}
use Rattle.calls.specs.Format.{format_number, image_formatted}
use Rattle.calls.specs.Report.{refused_report, mounted_report, report_of}
use Rattle.calls.specs.AreaReport.{area_report, refused_area_report, area_report_number, area_report_of}
use Rattle.calls.specs.Lookup.{resolve, lookup_answer, lookup_of, file_only, open_answer, open_of}
use Rattle.calls.specs.Read.{Given, given, refused, read_given, read_answer}
use Rattle.calls.specs.Create.{creating, create_of, image_created}
use Rattle.calls.specs.Append.{appending, append_of, image_appended}
use Rattle.calls.specs.Unlink.{unlinking, unlink_of, image_unlinked}
use Rattle.calls.specs.Rename.{renaming, rename_of, image_renamed}
use Rattle.calls.specs.Overwrite.{overwriting, overwrite_of, image_overwritten}
use Rattle.calls.specs.Collect.{collecting, collect_of, image_collected}
use Rattle.calls.specs.Tree.{attempt_tree, tree_answer, buffer_with}
use Rattle.calls.specs.declared.Descriptor.{Descriptor}
use Rattle.calls.specs.declared.Handle.{Handle}
use Rattle.calls.specs.declared.Report.{Report}
use Rattle.calls.specs.declared.AreaReport.{AreaReport}
use Rattle.calls_laws.specs.Attempt.{refused_leaves}
use Rattle.demand2.specs.Refused.{RefusedRead, RefusedTree, zeros, area_zeros, RefusedCalls}

refused_read : (g : Given) (h : Handle) (buffer : Bytes) → (read_answer g).number ≢ 0 → RefusedRead g h buffer
refused_read (given bytes headers) h buffer n = absurd (n refl)
refused_read (refused r) h buffer n = record { answer = refl; same_buffer = refl; same_handle = refl }

refused_tree : (t : Attempt Bytes) (buffer : Bytes) → (tree_answer t).number ≢ 0 → RefusedTree t buffer
unfolding tree_answer buffer_with
refused_tree (goes text) buffer n = absurd (n refl)
refused_tree (refuses r) buffer n = record { answer = refl; same_buffer = refl }

refused_report_lem : (b : Bool) (r : Report) (n : ℕ) → r.number ≡ 0 → (cond b r (refused_report n)).number ≢ 0
    → cond b r (refused_report n) ≡ zeros (cond b r (refused_report n)).number
refused_report_lem true r n e h = absurd (h e)
refused_report_lem false r n e h = refl

refused_area : (b : Bool) (r : AreaReport) (n : ℕ) → r.number ≡ 0 → (cond b r (refused_area_report n)).number ≢ 0
    → cond b r (refused_area_report n) ≡ area_zeros (cond b r (refused_area_report n)).number
refused_area true r n e h = absurd (h e)
refused_area false r n e h = refl

refused_lookup : (o : Found) → (lookup_answer o).number ≢ 0 → lookup_answer o ≡ record { number = (lookup_answer o).number; id = 0; kind = 0 }
refused_lookup (found i) h = absurd (h refl)
refused_lookup (absent r) h = refl

refused_open : (o : Found) → (open_answer o).number ≢ 0 → open_answer o ≡ record { number = (open_answer o).number; id = 0; position = 0 }
refused_open (found i) h = absurd (h refl)
refused_open (absent r) h = refl

pub refused_calls : (image : Bytes) (ds : List Descriptor) → RefusedCalls image ds
unfolding
    image_formatted report_of mounted_report area_report_of area_report lookup_of open_of create_of image_created append_of image_appended unlink_of image_unlinked rename_of image_renamed overwrite_of image_overwritten collect_of image_collected
refused_calls image ds = record {
  format = λ h. rw (image_formatted, eqb_differ (format_number image ds) 0 h);
  report = refused_report_lem (eqb (mount_number image ds) 0) (mounted_report image ds) (mount_number image ds) refl;
  area_report_lem = λ i k. refused_area (eqb (area_report_number image ds i) 0) _ (area_report_number image ds i) refl;
  lookup = λ base path. refused_lookup (resolve image ds base path);
  opened = λ base path. refused_open (file_only (resolve image ds base path));
  read = λ id position room n h buffer. refused_read (read_given image ds id position room) h buffer n;
  tree = λ n buffer. refused_tree (attempt_tree image ds) buffer n;
  create = λ base path kind h. (
    refused_leaves image _ (creating image ds base path kind) h,
    let e : (create_of image ds base path kind).id ≡ 0 = refused_leaves 0 _ (creating image ds base path kind) h in
        λ i. record { number = (create_of image ds base path kind).number; id = e i },
  );
  append = λ base path text. refused_leaves image _ (appending image ds base path text);
  unlink = λ base path. refused_leaves image _ (unlinking image ds base path);
  rename = λ base old new. refused_leaves image _ (renaming image ds base old new);
  overwrite = λ base path offset text. refused_leaves image _ (overwriting image ds base path offset text);
  collect = refused_leaves image _ (collecting image ds);
}
