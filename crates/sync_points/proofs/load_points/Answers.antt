use Rattle.sync_points.proofs.Drafts.{text_of_draft}
use Rattle.sync_points.proofs.load_points.Goals as goal

pub returns-clause-ok : goal.returns-clause-ok
returns-clause-ok c = text_of_draft c.args.left.now c.args.right.now c.args.bytes.now c.in_ok-start.start c.in_ok-draft.draft c.into_points.result c.in_ok-start.ensures c.in_ok-draft.ensures.ok c.into_points.ensures
