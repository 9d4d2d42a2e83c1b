-- A debugger session: what the commands of a script make of a machine and its input. `session`, at the end, is the
-- whole of it. It is this project's own choice, as docs/MANUAL.md has it under "A session" and "Going back".
--
-- The machine is always one that the run from the start passes, and it stands still once it has ended or has counted
-- its budget. What the program writes is put once, by the first step that counts so far. What commands print goes to
-- the output, behind what stands there.
use Rattle.std.specs.Prelude.{ℕ, zero, suc, ◌+◌, ◌-◌, ◌*◌, ◌/◌, min, Bool, ◌&&◌, List, [], ◌∷◌, ◌++◌, position, codes, Option, Some, None, is_none, nat_eq, nat_lt, if◌then◌else◌}
use Rattle.std.specs.Fmt.{decimal}
use Rattle.std.specs.List.{list_any}
use Rattle.emu_bits.specs.Flags.{size_of}
use Rattle.emu_bits.specs.declared.flags.Esize.{Esize}
use Rattle.emu_bits.specs.declared.flags.Esize.TheVariants.{B, H, S, D}
use Rattle.emu_model.specs.declared.access.Access.{Access}
use Rattle.emu_model.specs.Access.{Memory}
use Rattle.emu_model.specs.Pages.{peeked}
use Rattle.emu_model.specs.State.{Vectors, Parts, State}
use Rattle.emu_model.specs.Lanes.{lane, read_p, read_z}
use Rattle.emu_run.specs.Text.{hex, space, newline}
use Rattle.emu_run.specs.Registers.{bit_digits, byte_digits, lines_of, numbered, register_line, scalar_lines}
use Rattle.emu_run.specs.Reports.{address_text, ending_line}
use Rattle.emu_run.specs.Step.{accesses, step}
use Rattle.emu_run.specs.Run.{goes_on, until_end}
use Rattle.dbg_model.specs.declared.script.Command.{Command}
use Rattle.dbg_model.specs.declared.script.Command.TheVariants.{Step, Go, Break, Watch, Regs, Vl, Zreg, Preg, Ffr, Lanes, Mem, Back}
use Rattle.dbg_model.specs.declared.script.Watch.{Watch as Watched}
use Rattle.dbg_model.specs.declared.script.Stop.{Stop}
use Rattle.dbg_model.specs.declared.script.Stop.TheVariants.{AtWatch, AtBreak}

-- ---- what a command prints of a machine

abbrev pub size_letter : Esize → List ℕ
size_letter B = codes "b"
size_letter H = codes "h"
size_letter S = codes "s"
size_letter D = codes "d"

-- the present and the starting vector length, in bits
abbrev pub length_line : Vectors → List ℕ
length_line v = codes "vl " ++ decimal v.bits ++ codes " of " ++ decimal v.most ++ newline

abbrev pub z_line : Vectors → ℕ → List ℕ
z_line v k = register_line (numbered (codes "z") k) (byte_digits (read_z v k))

abbrev pub p_line : Vectors → ℕ → List ℕ
p_line v k = register_line (numbered (codes "p") k) (bit_digits (read_p v k))

abbrev pub ffr_line : Vectors → List ℕ
ffr_line v = register_line (codes "ffr") (bit_digits v.ffr)

-- lane k of a Z register, a digit for each four bits
abbrev pub lane_text : ℕ → List ℕ → ℕ → List ℕ
lane_text e bytes k = space ++ hex (e / 4) (lane e bytes k)

-- the lanes of a Z register, lane 0 first
abbrev pub lanes_line : Vectors → ℕ → Esize → List ℕ
lanes_line v k size =
    numbered (codes "z") k ++ codes "." ++ size_letter size
    ++ lines_of (v.bits / size_of size) (lane_text (size_of size) (read_z v k)) ++ newline

-- a byte of memory, where its page is mapped
abbrev pub byte_text : Option ℕ → List ℕ
byte_text None = codes " --"
byte_text (Some byte) = space ++ hex 2 byte

abbrev pub memory_line : Memory → ℕ → ℕ → List ℕ
memory_line m address count =
    address_text address ++ codes ":" ++ lines_of count (λ k. byte_text (peeked m (address + k))) ++ newline

-- so many bytes from an address on, 16 in a line
abbrev pub memory_lines : Memory → ℕ → ℕ → List ℕ
memory_lines m address count =
    lines_of ((count + 15) / 16) (λ k. memory_line m (address + 16 * k) (min 16 (count - 16 * k)))

abbrev pub command_text : Command → Parts → List ℕ
command_text Regs parts = scalar_lines parts.core parts.vectors.bits
command_text Vl parts = length_line parts.vectors
command_text (Zreg k) parts = z_line parts.vectors k
command_text (Preg k) parts = p_line parts.vectors k
command_text Ffr parts = ffr_line parts.vectors
command_text (Lanes k size) parts = lanes_line parts.vectors k size
command_text (Mem address count) parts = memory_lines parts.memory address count
command_text command parts = []

-- ---- breaks and watches

-- the addresses of the breaks, and the watches, in the order in which they were added
pub record Points : Type 0 where
  pub breaks : List ℕ
  pub watches : List Watched

abbrev pub no_points : Points
no_points = record { breaks = []; watches = [] }

abbrev pub with_point : Command → Points → Points
with_point (Break address) points = record points { breaks = points.breaks ++ address ∷ [] }
with_point (Watch address count) points =
    record points { watches = points.watches ++ record { address = address; count = count } ∷ [] }
with_point command points = points

-- an access shares a byte with a watch
abbrev pub shares : Watched → Access → Bool
shares watch access =
    nat_lt access.address (watch.address + watch.count) && nat_lt watch.address (access.address + access.bytes)

abbrev pub is_touched : List Access → Watched → Bool
is_touched made watch = list_any (shares watch) made

-- ---- where a machine stops

abbrev pub behind_steps : ℕ → ℕ → List ℕ
behind_steps steps pc = codes " after " ++ decimal steps ++ codes " steps at " ++ address_text pc ++ newline

abbrev pub step_line : ℕ → ℕ → List ℕ
step_line steps pc = codes "step" ++ behind_steps steps pc

abbrev pub watch_line : ℕ → ℕ → ℕ → List ℕ
watch_line k steps pc = codes "watch " ++ decimal k ++ behind_steps steps pc

abbrev pub break_line : ℕ → ℕ → List ℕ
break_line steps pc = codes "break" ++ behind_steps steps pc

abbrev pub stop_line : Stop → Parts → List ℕ
stop_line (AtWatch k) parts = watch_line k parts.steps parts.core.pc
stop_line AtBreak parts = break_line parts.steps parts.core.pc

-- a break, where the program counter stands on one
abbrev pub break_met : Points → ℕ → Option Stop
break_met points pc = if list_any (λ address. nat_eq address pc) points.breaks then Some AtBreak else None

-- the least of the watches that the last step touched, else a break
abbrev pub watch_met : Points → ℕ → Option ℕ → Option Stop
watch_met points pc (Some k) = Some (AtWatch k)
watch_met points pc None = break_met points pc

-- what stops a machine that goes on behind a step that made these accesses
abbrev pub point_met : Points → List Access → Parts → Option Stop
point_met points made parts =
    if is_none parts.ended then watch_met points parts.core.pc (position (is_touched made) points.watches) else None

-- ---- how far a session has come

-- its machine, what is left of the input and what the session has put, and the furthest number of steps that was
-- counted
pub record Course : Type 0 where
  pub state : State
  pub top : ℕ

-- ---- what is printed

-- a text of the machine, printed
abbrev pub printed : (Parts → List ℕ) → Course → Course
printed text c = record c { state = record c.state { output = c.state.output ++ text c.state.parts } }

-- the machine and the input of another state, behind what was put so far
abbrev pub moved_to : State → State → State
moved_to to st = record to { output = st.output; errors = st.errors }

-- ---- steps

-- a step that makes the count greater than the furthest puts what the program writes, and any other puts nothing of it
abbrev pub stepped : Course → Course
stepped c =
    if nat_lt c.top (step c.state).parts.steps then record { state = step c.state; top = (step c.state).parts.steps }
    else record { state = moved_to (step c.state) c.state; top = c.top }

-- at most so many steps, up to the machine's end
unfoldable pub walked : Course → ℕ → Course
walked c zero = c
walked c (suc k) = if goes_on c.state then walked (stepped c) k else c

-- how the machine ended, or that its budget is spent
abbrev pub ended_line : Parts → List ℕ
ended_line parts = ending_line parts parts.ended

-- where a point was met its line, else what comes of going on
abbrev pub stopped_or : Option Stop → Course → Course → Course
stopped_or (Some stop) c rest = printed (stop_line stop) c
stopped_or None c rest = rest

-- at most so many steps, up to the end or to the first point that is met; the tests behind a step are: end, watch,
-- break, budget
unfoldable pub go : Points → Course → ℕ → Course
go points c zero = printed ended_line c
go points c (suc k) =
    if goes_on c.state
    then stopped_or (point_met points (accesses c.state.parts) (stepped c).state.parts) (stepped c)
    (go points (stepped c) k)
    else printed ended_line c

-- ---- commands

abbrev pub back_text : Parts → List ℕ
back_text parts = codes "back to " ++ decimal parts.steps ++ codes " steps at " ++ address_text parts.core.pc ++ newline

-- the machine of the run from the start where it has counted k steps fewer, or the start where there were no more
abbrev pub back_to : State → ℕ → Course → Course
back_to start k c = record c { state = moved_to (until_end start (c.state.parts.steps - k)) c.state }

abbrev pub went_back : State → ℕ → Course → Course
went_back start k c = printed back_text (back_to start k c)

-- the step counted `target` steps, and the machine goes on
abbrev pub stepped_text : ℕ → Parts → List ℕ
stepped_text target parts =
    if nat_eq parts.steps target && is_none parts.ended then step_line parts.steps parts.core.pc
    else ending_line parts parts.ended

-- n steps within the budget, and that they were counted, or how the machine ended before
abbrev pub steps_taken : ℕ → ℕ → Course → Course
steps_taken n budget c =
    printed (stepped_text (c.state.parts.steps + n))
    (walked c (min (c.state.parts.steps + n) budget - c.state.parts.steps))

abbrev pub obeyed : State → Command → Points → ℕ → Course → Course
obeyed start (Step n) points budget c = steps_taken n budget c
obeyed start Go points budget c = go points c (budget - c.state.parts.steps)
obeyed start (Back k) points budget c = went_back start k c
obeyed start command points budget c = printed (command_text command) c

-- the commands one after the other
abbrev pub obeyed_all : State → List Command → Points → ℕ → Course → Course
obeyed_all start [] points budget c = c
obeyed_all start (command ∷ commands) points budget c =
    obeyed_all start commands (with_point command points) budget (obeyed start command points budget c)

-- at first no step was counted
abbrev pub begun : State → Course
begun start = record { state = start; top = 0 }

-- a session from a machine with its input and a budget of steps, at first with neither a break nor a watch; where a
-- command goes back, the machine has counted no step, and its input is whole
abbrev pub session : List Command → ℕ → State → State
session commands budget start = (obeyed_all start commands no_points budget (begun start)).state
