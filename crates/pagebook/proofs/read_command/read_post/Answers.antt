-- Why `read_command::read_post` meets its contract.
use Rattle.std.proofs.Common.{refl, arith, rules}
use Rattle.pagebook.specs.Commands.{PostReads}
use Rattle.pagebook.specs.declared.command.Command.TheVariants.{Table, Frames}
use Rattle.pagebook.proofs.Reading.{place_told, place_read, no_size, no_count, too_much, both, in_either, in_neither}
use Rattle.pagebook.proofs.read_command.read_post.Goals as goal
use Rattle.words.proofs.Refusals.{passed_on}

pub returns-in_err-size-clause-value : goal.returns-in_err-size-clause-value
returns-in_err-size-clause-value g c =
    passed_on _ _ c.number_in.result _ _ c.in_err-size.was c.from_residual.ensures.1 (λ none. in_either _ _ _ _ (no_size _ _ _ _ none (omega arith)) (no_size _ _ _ _ none (omega arith)) refl) (place_read _ c.number_in.result c.number_in.ensures)

pub returns-in_err-count-clause-value : goal.returns-in_err-count-clause-value
returns-in_err-count-clause-value g c =
    let size = place_told _ _ _ c.in_ok-size.was c.number_in.ensures in
    passed_on _ _ c.number_in-2.result _ _ c.in_err-count.was c.from_residual-in_err-count.ensures.1 (λ none. in_either _ _ _ _ (no_count _ _ _ _ _ size none) (no_count _ _ _ _ _ size none) refl) (place_read _ c.number_in-2.result c.number_in-2.ensures)

pub returns-in-table-clause-value : goal.returns-in-table-clause-value
unfolding PostReads
returns-in-table-clause-value g c =
    let size = place_told _ _ _ c.in_ok-size.was c.number_in.ensures in
    let count = place_told _ _ _ c.in_ok-count.was c.number_in-2.ensures in
    rw c.in-table.is (both _ Table _ _ _ size c.if-size-le-MOST_RECORDS.true _ count)

pub returns-in-frame-clause-value : goal.returns-in-frame-clause-value
unfolding PostReads
returns-in-frame-clause-value g c =
    let size = place_told _ _ _ c.in_ok-size.was c.number_in.ensures in
    let count = place_told _ _ _ c.in_ok-count.was c.number_in-2.ensures in
    rw c.in-frame.is (both _ Frames _ _ _ size c.if-size-le-MOST_BYTES.true _ count)

pub returns-in_default-clause-value : goal.returns-in_default-clause-value
unfolding PostReads
returns-in_default-clause-value g c =
    let size = place_told _ _ _ c.in_ok-size.was c.number_in.ensures in
    elim c.in_default.branch [
      | goal.in_default-via-in-table+else-size-le-MOST_RECORDS w ↦ rw w.in-table.is (too_much _ _ _ _ _ size w.if-size-le-MOST_RECORDS.false)
      | goal.in_default-via-in-frame+else-size-le-MOST_BYTES w ↦ rw w.in-frame.is (too_much _ _ _ _ _ size w.if-size-le-MOST_BYTES.false)
      | goal.in_default-via-in_default w ↦ in_neither c.args.form.now _ _ _ (search rules) (search rules) refl
    ]
