-- `words::hexadecimal` meets its contract: each test is one of its definition.
-- Assumes nothing.
use native.Mathlib.Omega.{arith}
use lib.ListN.{length, get_or}
use borrow.Author.Tests.{le-leb, lt-leb, eq-eqb, ne_eqb}
use Rattle.words.specs.Figures.{hexadecimal_of}
use Rattle.words.proofs.Runs.{to_the_end}
use Rattle.words.proofs.hexadecimal.Goals as goal

pub returns-in-48 : goal.returns-in-48
unfolding hexadecimal_of
returns-in-48 c =
    let w = c.args.word.now in
    rw (le-leb 2 (length w) (omega arith), eq-eqb (get_or w 0 0) 48 (omega arith), eq-eqb (get_or w 1 0) 120 (omega arith), ← (to_the_end 2 w)) c.figures.ensures

pub returns-in_default : goal.returns-in_default
unfolding hexadecimal_of
returns-in_default c = let w = c.args.word.now in rw (lt-leb 2 (length w) (omega arith))

pub returns-in_default-3 : goal.returns-in_default-3
unfolding hexadecimal_of
returns-in_default-3 c = let w = c.args.word.now in rw (le-leb 2 (length w) (omega arith), ne_eqb (get_or w 0 0) 48 (omega arith))

pub returns-in_default-2 : goal.returns-in_default-2
unfolding hexadecimal_of
returns-in_default-2 c = let w = c.args.word.now in rw (le-leb 2 (length w) (omega arith), eq-eqb (get_or w 0 0) 48 (omega arith), ne_eqb (get_or w 1 0) 120 (omega arith))
