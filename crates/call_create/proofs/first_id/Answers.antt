use Rattle.call_create.specs.Creating.{first_directory, first_file_lem}
use Rattle.call_create.proofs.first_id.Goals as goal

pub returns-then-kind-eq-DIRECTORY-clause-is : goal.returns-then-kind-eq-DIRECTORY-clause-is
returns-then-kind-eq-DIRECTORY-clause-is c = first_directory c.args.kind c.if-kind-eq-DIRECTORY.true

pub returns-else-kind-eq-DIRECTORY-clause-is : goal.returns-else-kind-eq-DIRECTORY-clause-is
returns-else-kind-eq-DIRECTORY-clause-is c = first_file_lem c.args.kind c.if-kind-eq-DIRECTORY.false
