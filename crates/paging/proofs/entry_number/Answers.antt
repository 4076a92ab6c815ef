use Rattle.paging.proofs.Pages.{stack, below, above, inside}
use Rattle.paging.proofs.entry_number.Goals as goal

pub returns-then-page-eq-STACK_PAGE : goal.returns-then-page-eq-STACK_PAGE
returns-then-page-eq-STACK_PAGE c = stack c.args.page c.if-page-eq-STACK_PAGE.true

pub returns-then-page-lt-FIRST_PAGE : goal.returns-then-page-lt-FIRST_PAGE
returns-then-page-lt-FIRST_PAGE c = below c.args.page c.if-page-eq-STACK_PAGE.false c.if-page-lt-FIRST_PAGE.true

pub returns-then-page-gt-LAST_PAGE : goal.returns-then-page-gt-LAST_PAGE
returns-then-page-gt-LAST_PAGE c = above c.args.page c.if-page-eq-STACK_PAGE.false c.if-page-lt-FIRST_PAGE.false c.if-page-gt-LAST_PAGE.true

pub returns : goal.returns
returns c = inside c.args.page c.if-page-lt-FIRST_PAGE.false c.if-page-gt-LAST_PAGE.false
