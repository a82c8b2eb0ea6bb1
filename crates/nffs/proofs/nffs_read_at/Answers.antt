-- `nffs::nffs_read_at` meets its contract: the call took the list cut to what tells as much.
use mathlib.Core.Path.{ap, ◌∙◌}
use lib.ListN.{length}
use Rattle.calls.specs.Areas.{listed}
use Rattle.calls.specs.Read.{read_given, read_answer, buffer_after}
use Rattle.area_structs.specs.Cut.{read_whole}
use Rattle.nffs_walk.proofs.Forward.{forwarded}
use Rattle.nffs.proofs.nffs_read_at.Goals as goal

pub returns-clause-answer : goal.returns-clause-answer
returns-clause-answer c =
    forwarded (λ l. read_answer (read_given c.args.image.now l c.args.id c.args.position (length c.args.buffer.now))) _ (listed c.args.areas.now) (c.from.ensures ∙ c.read_at_of.ensures.answer) c.areas_of.ensures.1
    (ap read_answer (read_whole c.args.image.now (listed c.args.areas.now) c.args.id c.args.position (length c.args.buffer.now)))

pub returns-clause-bytes : goal.returns-clause-bytes
returns-clause-bytes c =
    forwarded (λ l. buffer_after (read_given c.args.image.now l c.args.id c.args.position (length c.args.buffer.now)) c.args.buffer.now) _ (listed c.args.areas.now) c.read_at_of.ensures.bytes c.areas_of.ensures.1
    (ap (λ g. buffer_after g c.args.buffer.now) (read_whole c.args.image.now (listed c.args.areas.now) c.args.id c.args.position (length c.args.buffer.now)))
