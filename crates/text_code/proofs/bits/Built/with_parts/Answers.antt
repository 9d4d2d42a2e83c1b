use Rattle.text_code.specs.Tables.{built_of}
use Rattle.text_code.proofs.Parted.{one_in_word, two_in_word, three_in_word, told_at_one, told_at_two, told_at_three}
use Rattle.text_code.proofs.bits.Built.with_parts.Goals as goal

pub with-requires : goal.with-requires
with-requires c = one_in_word c.args.parts c.in-At.a c.in-At.is c.requires

pub width-requires : goal.width-requires
width-requires c = (two_in_word c.args.parts c.in-Two.a c.in-Two.b c.in-Two.is c.requires).1

pub with-requires-in-Two : goal.with-requires-in-Two
with-requires-in-Two c = (two_in_word c.args.parts c.in-Two.a c.in-Two.b c.in-Two.is c.requires).0

pub with-requires-in-Two-2 : goal.with-requires-in-Two-2
with-requires-in-Two-2 c = (two_in_word c.args.parts c.in-Two.a c.in-Two.b c.in-Two.is c.requires).1

pub width-requires-in-Three : goal.width-requires-in-Three
width-requires-in-Three c = (three_in_word c.args.parts c.in-Three.a c.in-Three.b c.in-Three.c c.in-Three.is c.requires).1

pub width-requires-in-Three-2 : goal.width-requires-in-Three-2
width-requires-in-Three-2 c = (three_in_word c.args.parts c.in-Three.a c.in-Three.b c.in-Three.c c.in-Three.is c.requires).2

pub with-requires-in-Three : goal.with-requires-in-Three
with-requires-in-Three c = (three_in_word c.args.parts c.in-Three.a c.in-Three.b c.in-Three.c c.in-Three.is c.requires).0

pub width-requires-in-Three-3 : goal.width-requires-in-Three-3
width-requires-in-Three-3 c = (three_in_word c.args.parts c.in-Three.a c.in-Three.b c.in-Three.c c.in-Three.is c.requires).2

pub with-requires-in-Three-2 : goal.with-requires-in-Three-2
with-requires-in-Three-2 c = (three_in_word c.args.parts c.in-Three.a c.in-Three.b c.in-Three.c c.in-Three.is c.requires).1

pub with-requires-in-Three-3 : goal.with-requires-in-Three-3
with-requires-in-Three-3 c = (three_in_word c.args.parts c.in-Three.a c.in-Three.b c.in-Three.c c.in-Three.is c.requires).2

pub returns-in-At : goal.returns-in-At
returns-in-At c = told_at_one (built_of c.args.self) c.args.value c.args.parts c.in-At.a (built_of c.with.result) c.in-At.is c.with.ensures

pub returns-in-Two : goal.returns-in-Two
returns-in-Two c =
    told_at_two (built_of c.args.self) c.args.value c.args.parts c.in-Two.a c.in-Two.b c.width.result (built_of c.with-in-Two.result) (built_of c.with-in-Two-2.result)
    c.in-Two.is c.width.ensures.value c.with-in-Two.ensures c.with-in-Two-2.ensures

pub returns-in-Three : goal.returns-in-Three
returns-in-Three c =
    told_at_three (built_of c.args.self) c.args.value c.args.parts c.in-Three.a c.in-Three.b c.in-Three.c c.width-in-Three.result c.width-in-Three-2.result c.width-in-Three-3.result
    (built_of c.with-in-Three.result) (built_of c.with-in-Three-2.result) (built_of c.with-in-Three-3.result)
    c.in-Three.is c.width-in-Three.ensures.value c.width-in-Three-2.ensures.value c.width-in-Three-3.ensures.value
    c.with-in-Three.ensures c.with-in-Three-2.ensures c.with-in-Three-3.ensures
