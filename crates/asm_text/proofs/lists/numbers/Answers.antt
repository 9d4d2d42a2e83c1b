use Rattle.std.proofs.Common.{drop}
use Rattle.asm_text.proofs.Reading.{goes_on, refused_list}
use Rattle.listing_model.specs.Faults.{refusal}
use Rattle.asm_tokens.specs.Tokens.{tokens}
use Rattle.asm_text.proofs.lists.numbers.Goals as goal

pub loop-next-preserved : goal.loop-next-preserved
loop-next-preserved c =
    let a = rw c.in-Ok-Some.field-0-is at c.in-Ok-Some.ensures.added in (
      a.part.rest.2,
      goes_on c.args.labels c.args.size (tokens (drop c.args.at c.args.text.now)) c.args.text.now c.loop-next.at c.in-Ok-Some.next c.loop-next.numbers
          c.add_argument.new.numbers c.loop-next.invariant.1 a,
    )

pub returns-in-Err : goal.returns-in-Err
returns-in-Err c =
    refused_list c.args.labels c.args.size (tokens (drop c.args.at c.args.text.now)) c.args.text.now c.loop-next.at c.loop-next.numbers (refusal c.in-Err.fault)
    c.loop-next.invariant.1 c.in-Err.ensures.refused
