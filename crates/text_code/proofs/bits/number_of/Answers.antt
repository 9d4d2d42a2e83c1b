use Rattle.std.proofs.Common.{◌<◌, ◌^◌, arith}
use Rattle.emu_bits.specs.Rows.{width}
use Rattle.text_model.specs.Slots.{place_of}
use Rattle.text_code.proofs.Joining.{two_small, three_small}
use Rattle.text_code.proofs.Parted.{one_in_word, two_in_word, three_in_word}
use Rattle.text_code.proofs.bits.number_of.Goals as goal

pub returns-in-Two-clause-small : goal.returns-in-Two-clause-small
returns-in-Two-clause-small c =
    let a = c.in-Two.a in
    let b = c.in-Two.b in
    let x : c.from-in-Two.result < 2 ^ width (place_of a) = omega (arith, c.number_at-in-Two.ensures.small) in
    let y : c.from-in-Two-2.result < 2 ^ width (place_of b) = omega (arith, c.number_at-in-Two-2.ensures.small) in
    two_small c.args.parts a b c.from-in-Two.result c.from-in-Two-2.result c.width.result c.in-Two.is x y c.width.ensures.value c.requires.narrow

pub returns-in-Three-clause-small : goal.returns-in-Three-clause-small
returns-in-Three-clause-small c =
    let p = c.in-Three in
    let x : c.from-in-Three-3.result < 2 ^ width (place_of p.a) = omega (arith, c.number_at-in-Three-3.ensures.small) in
    let y : c.from-in-Three.result < 2 ^ width (place_of p.b) = omega (arith, c.number_at-in-Three.ensures.small) in
    let z : c.from-in-Three-2.result < 2 ^ width (place_of p.c) = omega (arith, c.number_at-in-Three-2.ensures.small) in
    three_small c.args.parts p.a p.b p.c c.from-in-Three-3.result c.from-in-Three.result c.from-in-Three-2.result c.width-in-Three.result c.width-in-Three-2.result c.width-in-Three-3.result
    p.is x y z c.width-in-Three.ensures.value c.width-in-Three-2.ensures.value c.width-in-Three-3.ensures.value c.requires.narrow

pub number_at-requires : goal.number_at-requires
number_at-requires c = one_in_word c.args.parts c.in-At.a c.in-At.is c.requires.parts

pub number_at-requires-in-Two : goal.number_at-requires-in-Two
number_at-requires-in-Two c = (two_in_word c.args.parts c.in-Two.a c.in-Two.b c.in-Two.is c.requires.parts).0

pub width-requires : goal.width-requires
width-requires c = (two_in_word c.args.parts c.in-Two.a c.in-Two.b c.in-Two.is c.requires.parts).1

pub number_at-requires-in-Two-2 : goal.number_at-requires-in-Two-2
number_at-requires-in-Two-2 c = (two_in_word c.args.parts c.in-Two.a c.in-Two.b c.in-Two.is c.requires.parts).1

pub width-requires-in-Three : goal.width-requires-in-Three
width-requires-in-Three c = (three_in_word c.args.parts c.in-Three.a c.in-Three.b c.in-Three.c c.in-Three.is c.requires.parts).1

pub width-requires-in-Three-2 : goal.width-requires-in-Three-2
width-requires-in-Three-2 c = (three_in_word c.args.parts c.in-Three.a c.in-Three.b c.in-Three.c c.in-Three.is c.requires.parts).2

pub number_at-requires-in-Three : goal.number_at-requires-in-Three
number_at-requires-in-Three c = (three_in_word c.args.parts c.in-Three.a c.in-Three.b c.in-Three.c c.in-Three.is c.requires.parts).1

pub width-requires-in-Three-3 : goal.width-requires-in-Three-3
width-requires-in-Three-3 c = (three_in_word c.args.parts c.in-Three.a c.in-Three.b c.in-Three.c c.in-Three.is c.requires.parts).2

pub number_at-requires-in-Three-2 : goal.number_at-requires-in-Three-2
number_at-requires-in-Three-2 c = (three_in_word c.args.parts c.in-Three.a c.in-Three.b c.in-Three.c c.in-Three.is c.requires.parts).2

pub number_at-requires-in-Three-3 : goal.number_at-requires-in-Three-3
number_at-requires-in-Three-3 c = (three_in_word c.args.parts c.in-Three.a c.in-Three.b c.in-Three.c c.in-Three.is c.requires.parts).0
