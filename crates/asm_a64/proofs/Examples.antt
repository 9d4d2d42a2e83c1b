-- Statements read and printed.
use Rattle.std.proofs.Common.{◌≡◌, true, refl, Ok, Err, None, Some, codes}
use Rattle.text_model.specs.declared.slots.Refusal.TheVariants.{UnknownName, BadOperands, OutOfRange}
use Rattle.text_model.specs.Words.{dictionary}
use Rattle.text_model.specs.Statement.{to_label, to_address}
use Rattle.text_model.specs.ReadBack.{reads_text}
use Rattle.emu_bits.specs.Bitmask.{bitmask_of}
use Rattle.text_model.specs.Masks.{bitmask_fields}
use Rattle.asm_a64.specs.Data.{data_lines}
use Rattle.asm_a64.specs.Flow.{flow_lines}
use Rattle.asm_a64.specs.Memory.{memory_lines}
use Rattle.asm_a64.specs.BitMoves.{last_lines}
use Rattle.asm_a64.specs.Table.{line_texts}
use Rattle.asm_a64.specs.Opened.{printed_patterns, texts_open}
use Rattle.asm_a64.specs.Table.{a64_patterns, a64_lines}
use Rattle.asm_a64.specs.Aliases.{aliases}

e1 : reads_text (λ w. true) a64_patterns (codes "add x1 ,SP,5") ≡ Ok (record { word = 0x910017E1; target = None })
unfolding texts_open a64_patterns a64_lines data_lines flow_lines memory_lines last_lines aliases dictionary bitmask_of bitmask_fields printed_patterns line_texts
e1 = refl

e2 : reads_text (λ w. true) a64_patterns (codes "ldr x0, [x1]") ≡ Ok (record { word = 0xF9400020; target = None })
unfolding texts_open a64_patterns a64_lines data_lines flow_lines memory_lines last_lines aliases dictionary bitmask_of bitmask_fields printed_patterns line_texts
e2 = refl

e3 : reads_text (λ w. true) a64_patterns (codes "LDR W0, [sp, #-4]!") ≡ Ok (record { word = 0xB85FCFE0; target = None })
unfolding texts_open a64_patterns a64_lines data_lines flow_lines memory_lines last_lines aliases dictionary bitmask_of bitmask_fields printed_patterns line_texts
e3 = refl

e4 : reads_text (λ w. true) a64_patterns (codes "b.eq loop") ≡ Ok (record { word = 0x54000000; target = Some (to_label (codes "loop")) })
unfolding texts_open a64_patterns a64_lines data_lines flow_lines memory_lines last_lines aliases dictionary bitmask_of bitmask_fields printed_patterns line_texts
e4 = refl

e5 : reads_text (λ w. true) a64_patterns (codes "mov x0, sp") ≡ Ok (record { word = 0x910003E0; target = None })
unfolding texts_open a64_patterns a64_lines data_lines flow_lines memory_lines last_lines aliases dictionary bitmask_of bitmask_fields printed_patterns line_texts
e5 = refl

e6 : reads_text (λ w. true) a64_patterns (codes "mov w0, w1") ≡ Ok (record { word = 0x2A0103E0; target = None })
unfolding texts_open a64_patterns a64_lines data_lines flow_lines memory_lines last_lines aliases dictionary bitmask_of bitmask_fields printed_patterns line_texts
e6 = refl

e7 : reads_text (λ w. true) a64_patterns (codes "cset w0, ne") ≡ Ok (record { word = 0x1A9F07E0; target = None })
unfolding texts_open a64_patterns a64_lines data_lines flow_lines memory_lines last_lines aliases dictionary bitmask_of bitmask_fields printed_patterns line_texts
e7 = refl

e8 : reads_text (λ w. true) a64_patterns (codes "cset w0, al") ≡ Err OutOfRange
unfolding texts_open a64_patterns a64_lines data_lines flow_lines memory_lines last_lines aliases dictionary bitmask_of bitmask_fields printed_patterns line_texts
e8 = refl

e9 : reads_text (λ w. true) a64_patterns (codes "lsl x0, x1, #4") ≡ Ok (record { word = 0xD37CEC20; target = None })
unfolding texts_open a64_patterns a64_lines data_lines flow_lines memory_lines last_lines aliases dictionary bitmask_of bitmask_fields printed_patterns line_texts
e9 = refl

e10 : reads_text (λ w. true) a64_patterns (codes "ret") ≡ Ok (record { word = 0xD65F03C0; target = None })
unfolding texts_open a64_patterns a64_lines data_lines flow_lines memory_lines last_lines aliases dictionary bitmask_of bitmask_fields printed_patterns line_texts
e10 = refl

e11 : reads_text (λ w. true) a64_patterns (codes "and x0, x1, #-2") ≡ Ok (record { word = 0x927FF820; target = None })
unfolding texts_open a64_patterns a64_lines data_lines flow_lines memory_lines last_lines aliases dictionary bitmask_of bitmask_fields printed_patterns line_texts
e11 = refl

e12 : reads_text (λ w. true) a64_patterns (codes "tbz x3, #35, 0x400000") ≡ Ok (record { word = 0xB6180003; target = Some (to_address 0x400000) })
unfolding texts_open a64_patterns a64_lines data_lines flow_lines memory_lines last_lines aliases dictionary bitmask_of bitmask_fields printed_patterns line_texts
e12 = refl

e13 : reads_text (λ w. true) a64_patterns (codes "ldr q1, [x2, w3, sxtw #4]") ≡ Ok (record { word = 0x3CE3D841; target = None })
unfolding texts_open a64_patterns a64_lines data_lines flow_lines memory_lines last_lines aliases dictionary bitmask_of bitmask_fields printed_patterns line_texts
e13 = refl

e14 : reads_text (λ w. true) a64_patterns (codes "movi v3.2d, #0xff00ff00ff00ff00") ≡ Ok (record { word = 0x6F05E543; target = None })
unfolding texts_open a64_patterns a64_lines data_lines flow_lines memory_lines last_lines aliases dictionary bitmask_of bitmask_fields printed_patterns line_texts
e14 = refl

e15 : reads_text (λ w. true) a64_patterns (codes "add x0, x1, w2, uxtx") ≡ Err BadOperands
unfolding texts_open a64_patterns a64_lines data_lines flow_lines memory_lines last_lines aliases dictionary bitmask_of bitmask_fields printed_patterns line_texts
e15 = refl

e16 : reads_text (λ w. true) a64_patterns (codes "frob x0") ≡ Err UnknownName
unfolding texts_open a64_patterns a64_lines data_lines flow_lines memory_lines last_lines aliases dictionary bitmask_of bitmask_fields printed_patterns line_texts
e16 = refl

e17 : reads_text (λ w. true) a64_patterns (codes "stp x29, x30, [sp, #-16]!") ≡ Ok (record { word = 0xA9BF7BFD; target = None })
unfolding texts_open a64_patterns a64_lines data_lines flow_lines memory_lines last_lines aliases dictionary bitmask_of bitmask_fields printed_patterns line_texts
e17 = refl
