-- The three answers in their order: row 11, row 12, the text.
-- Assumes nothing.
use Rattle.std.specs.Prelude.{Err, Ok}
use Prim.Native.Nat.{◌≤◌, ◌<◌}
use borrow.Author.Rules.{rules}
use native.Mathlib.Omega.{arith}
use mathlib.Core.Bool.{false}
use mathlib.Core.Path.{◌≡◌, refl, sym, ◌∙◌, ap}
use lib.ListN.{length}
use Rattle.refusals.specs.declared.Refusal.TheVariants.{Ask, Room}
use Rattle.tasks.specs.Set.{most_tasks, most_interrupts}
use Rattle.tasktext.specs.Text.{text_of}
use Rattle.taskwrite.specs.Write.{writer_asks}
use Rattle.taskask.proofs.Carried.{ask_count, count_within, interrupts_within}
use Rattle.taskwrite.proofs.WriteAsks.{writer_ask, write_ask, write_room, write_bytes, answered}
use Rattle.taskwrite_code.proofs.write.Statement.{statement}
use Rattle.taskwrite_code.proofs.write.Tie as tie

returns-then-writer_asks : tie.Need-returns-then-writer_asks
returns-then-writer_asks c =
    let a = c.args in
    answered a.set a.out.now (Err Ask) a.out.now (write_ask a.set a.out.now (sym c.writer_asks.ensures ∙ c.if-writer_asks.true)) refl

-- past row 11 the set can be written, and its counts are within the room
taken : (d : tie.Else-writer_asks) → writer_asks d.args.set ≡ false
taken d = sym d.writer_asks.ensures ∙ d.if-writer_asks.false

within : (d : tie.Else-writer_asks) → (d.args.set.count ≤ most_tasks) × (d.args.set.interrupts.count ≤ most_interrupts)
within d =
    let set = d.args.set in
    let counts = ask_count set (writer_ask set (taken d)) in
    ((count_within set counts).1, interrupts_within set counts)

text_length-needed-requires : tie.Need-text_length-needed-requires
text_length-needed-requires c κs = within c

-- the length that is tested is the text's
size : (d : tie.After-text_length-needed) → d.text_length-needed.result ≡ length (text_of d.args.set)
size d = d.text_length-needed.ensures

returns-then-short : tie.Need-returns-then-short
returns-then-short c =
    let d = c.before in
    let a = d.args in
    let short : length a.out.now < length (text_of a.set) = omega (arith, c.if-short.true-raw, size d) in
    answered a.set a.out.now (Err Room) a.out.now (write_room a.set a.out.now (taken d.before) short) refl

put_text-requires : tie.Need-put_text-requires
put_text-requires c κs =
    let d = c.before.before in
    let counts = within d.before in
    (counts.0, (counts.1, omega (arith, c.if-short.false-raw, size d)))

returns : tie.Need-returns
returns c =
    let e = c.before.before.before.before in
    let d = e.before in
    let a = d.args in
    let room : length (text_of a.set) ≤ length a.out.now = omega (arith, e.if-short.false-raw, size d) in
    answered a.set a.out.now (Ok d.text_length-needed.result) c.put_text.new.out
    (write_bytes a.set a.out.now (taken d.before) room ∙ ap Ok (sym (size d)))
    c.put_text.ensures

pub write_spec : {M : Type 1} → statement M
write_spec =
    tie.close
    (tie.spec
    (λ c κs. search rules)
    returns-then-writer_asks
    text_length-needed-requires
    returns-then-short
    put_text-requires
    (λ c. search rules)
    returns)
