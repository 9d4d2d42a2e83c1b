-- What endings leave, and of which inputs and files they tell.
use Rattle.std.proofs.Common.{◌≡◌, ◌≤◌, ◌⊎◌, inl, inr, ℕ, ◌+◌, Bool, true, false, cond, nat_lt, List, [], get_or, length, Option, Some, None, Result, Ok, Err, IfSome, refl, sym, ap, subst, ◌∙◌, arith, length-append}
use Rattle.std.proofs.lemmas.Bool.Decides.{nat_tests}
use Rattle.std.proofs.lemmas.Option.{IfSome_then}
use Rattle.std.specs.FinMap.{get}
use Rattle.std.specs.Global.{Vec}
use Rattle.std.specs.Io.KnownBytes.{Consumes}
use Rattle.io_gate.specs.Images.{whole_file, ReadsNamed}
use Rattle.io_gate.specs.Streams.{Rose}
use Rattle.io_gate.specs.declared.images.ImagesError.{ImagesError}
use Rattle.io_gate.specs.declared.images.ImagesError.TheVariants as images
use Rattle.command_lines.specs.Outcome.{Files, file_at, file_limit}
use Rattle.command_lines.specs.declared.ending.Ending.{Ending}
use Rattle.command_lines.specs.declared.ending.Ending.TheVariants.{Done, WordsRefused, ImageRefused, TooLong, FileFault, ReadFault, WriteFault, ErrorsFault, OutOfMemory}
use Rattle.command_model.specs.declared.command_line.WordsFault.{WordsFault}
use Rattle.command_model.specs.Sweep.{stream_limit}
use Rattle.commands.specs.Promises.{is_failure, is_refusal}
use Rattle.emu_system.specs.Image.{Image}
use Rattle.emu_system.specs.declared.image.ElfFault.{ElfFault}
use Rattle.tool_refusals.specs.Endings.{is_said, is_written, may_end, EndsFile, EndsImage, EndsOver, IsSaid, Leaves, ReadsFile}

-- ---- what is said

-- where nothing failed, it is the ending
pub said_is : {S : Type 0} (ending result : Ending) → IsSaid ending result S → is_failure result ≡ false → result ≡ ending
said_is ending result (inl is) fine = is
said_is ending result (inr failed) fine = let t : true ≡ false = sym (ap is_failure failed.0) ∙ fine in cc

-- it is neither of two others
pub said_not : {S : Type 0} (ending result x : Ending) → IsSaid ending result S → (ending ≡ x → ⊥) → (ErrorsFault ≡ x → ⊥) → result ≡ x → ⊥
said_not ending result x (inl is) own fault e = own (sym is ∙ e)
said_not ending result x (inr failed) own fault e = fault (sym failed.0 ∙ e)

pub said_leaves : {A B C F R W S : Type 0} (ending result : Ending) → IsSaid ending result S → is_said ending ≡ true → may_end ending ≡ true → is_written ending ≡ false
    → (ending ≡ FileFault → F) → (ending ≡ ReadFault → ⊥) → (ending ≡ WriteFault → ⊥) → (ending ≡ ErrorsFault → ⊥) → A → B → Leaves result A B C F R W S
said_leaves ending result (inl is) said kind unwritten file no_read no_write no_errors a b = record {
  kind = ap may_end is ∙ kind;
  file = λ e. file (sym is ∙ e);
  read = λ e. absurd (no_read (sym is ∙ e));
  write = λ e. absurd (no_write (sym is ∙ e));
  errors = λ e. absurd (no_errors (sym is ∙ e));
  untaken = λ _. a;
  unwritten = λ _. b;
  silent = λ e. let t : true ≡ false = sym said ∙ sym (ap is_said is) ∙ e in cc;
}
said_leaves ending result (inr failed) said kind unwritten file no_read no_write no_errors a b = record {
  kind = ap may_end failed.0;
  file = λ e. let t : ErrorsFault ≡ FileFault = sym failed.0 ∙ e in cc;
  read = λ e. let t : ErrorsFault ≡ ReadFault = sym failed.0 ∙ e in cc;
  write = λ e. let t : ErrorsFault ≡ WriteFault = sym failed.0 ∙ e in cc;
  errors = λ _. failed.1;
  untaken = λ _. a;
  unwritten = λ _. b;
  silent = λ e. let t : true ≡ false = sym (ap is_said failed.0) ∙ e in cc;
}

-- of an input that is too long
pub long_leaves : {A B C F R W S : Type 0} (result : Ending) → IsSaid (TooLong stream_limit) result S → B → Leaves result A B C F R W S
long_leaves result (inl is) b = record {
  kind = ap may_end is;
  file = λ e. let t : TooLong stream_limit ≡ FileFault = sym is ∙ e in cc;
  read = λ e. let t : TooLong stream_limit ≡ ReadFault = sym is ∙ e in cc;
  write = λ e. let t : TooLong stream_limit ≡ WriteFault = sym is ∙ e in cc;
  errors = λ e. let t : TooLong stream_limit ≡ ErrorsFault = sym is ∙ e in cc;
  untaken = λ e. let t : false ≡ true = sym (ap is_refusal is) ∙ e in cc;
  unwritten = λ _. b;
  silent = λ e. let t : true ≡ false = sym (ap is_said is) ∙ e in cc;
}
long_leaves result (inr failed) b = record {
  kind = ap may_end failed.0;
  file = λ e. let t : ErrorsFault ≡ FileFault = sym failed.0 ∙ e in cc;
  read = λ e. let t : ErrorsFault ≡ ReadFault = sym failed.0 ∙ e in cc;
  write = λ e. let t : ErrorsFault ≡ WriteFault = sym failed.0 ∙ e in cc;
  errors = λ _. failed.1;
  untaken = λ e. let t : false ≡ true = sym (ap is_refusal failed.0) ∙ e in cc;
  unwritten = λ _. b;
  silent = λ e. let t : true ≡ false = sym (ap is_said failed.0) ∙ e in cc;
}

-- ---- failures of which nothing is said, and the whole output

pub wanting_leaves : {A B C F R W S : Type 0} → A → B → C → Leaves OutOfMemory A B C F R W S
wanting_leaves a b c = record {
  kind = refl;
  file = λ e. cc;
  read = λ e. cc;
  write = λ e. cc;
  errors = λ e. cc;
  untaken = λ _. a;
  unwritten = λ _. b;
  silent = λ _. c;
}

-- none of a refusal is asked
pub wanting_late : {A B C F R W S : Type 0} → B → C → Leaves OutOfMemory A B C F R W S
wanting_late b c = record {
  kind = refl;
  file = λ e. cc;
  read = λ e. cc;
  write = λ e. cc;
  errors = λ e. cc;
  untaken = λ e. cc;
  unwritten = λ _. b;
  silent = λ _. c;
}

pub read_leaves : {A B C F R W S : Type 0} → R → B → C → Leaves ReadFault A B C F R W S
read_leaves r b c = record {
  kind = refl;
  file = λ e. cc;
  read = λ _. r;
  write = λ e. cc;
  errors = λ e. cc;
  untaken = λ e. cc;
  unwritten = λ _. b;
  silent = λ _. c;
}

pub done_leaves : {A B C F R W S : Type 0} → C → Leaves Done A B C F R W S
done_leaves c = record {
  kind = refl;
  file = λ e. cc;
  read = λ e. cc;
  write = λ e. cc;
  errors = λ e. cc;
  untaken = λ e. cc;
  unwritten = λ e. cc;
  silent = λ _. c;
}

pub write_leaves : {A B C F R W S : Type 0} → W → C → Leaves WriteFault A B C F R W S
write_leaves w c = record {
  kind = refl;
  file = λ e. cc;
  read = λ e. cc;
  write = λ _. w;
  errors = λ e. cc;
  untaken = λ e. cc;
  unwritten = λ e. cc;
  silent = λ _. c;
}

-- ---- what comes before and behind

-- a file wasn't read: neither the input nor the output was asked for anything
pub unread_leaves : {A B C F R W S : Type 0} (ending : Ending) → A → B → Leaves ending (Unit {0}) (Unit {0}) C F ⊥ ⊥ S → Leaves ending A B C F R W S
unread_leaves ending a b l = record {
  kind = l.kind;
  file = l.file;
  read = λ e. absurd (l.read e);
  write = λ e. absurd (l.write e);
  errors = l.errors;
  untaken = λ _. a;
  unwritten = λ _. b;
  silent = l.silent;
}

-- nor was the input
pub untold_leaves : {A B C F R W S : Type 0} (ending : Ending) → B → Leaves ending A (Unit {0}) C ⊥ R ⊥ S → Leaves ending A B C F R W S
untold_leaves ending b l = record {
  kind = l.kind;
  file = λ e. absurd (l.file e);
  read = l.read;
  write = λ e. absurd (l.write e);
  errors = l.errors;
  untaken = l.untaken;
  unwritten = λ _. b;
  silent = l.silent;
}

-- of what is done with an input that was read: it is no refusal, and only the output fails
pub over_leaves : {A B C F R W S : Type 0} (ending : Ending) → C → Leaves ending ⊥ B (Unit {0}) ⊥ ⊥ W ⊥ → Leaves ending A B C F R W S
over_leaves ending c l = record {
  kind = l.kind;
  file = λ e. absurd (l.file e);
  read = λ e. absurd (l.read e);
  write = l.write;
  errors = λ e. absurd (l.errors e);
  untaken = λ e. absurd (l.untaken e);
  unwritten = l.unwritten;
  silent = λ _. c;
}

-- behind a file that was read, of which nothing was said; another fault of the files can't come
pub behind_leaves : {A B F R W E : Type 0} (faults : E → ℕ) (old mid new : E) (ending : Ending) → mid ≡ old → Leaves ending A B (new ≡ mid) ⊥ R W (Rose (faults mid) (faults new))
    → Leaves ending A B (new ≡ old) F R W (Rose (faults old) (faults new))
behind_leaves {E = E} faults old mid new ending same l = record {
  kind = l.kind;
  file = λ e. absurd (l.file e);
  read = l.read;
  write = l.write;
  errors = λ e. subst (λ (x : E). Rose (faults x) (faults new)) same (l.errors e);
  untaken = l.untaken;
  unwritten = l.unwritten;
  silent = λ e. l.silent e ∙ same;
}

-- with another cause of a missing file
pub file_as : {A B C F G R W S : Type 0} (ending : Ending) → (F → G) → Leaves ending A B C F R W S → Leaves ending A B C G R W S
file_as ending to l = record {
  kind = l.kind;
  file = λ e. to (l.file e);
  read = l.read;
  write = l.write;
  errors = l.errors;
  untaken = l.untaken;
  unwritten = l.unwritten;
  silent = l.silent;
}

-- ---- files

-- a file that is too long
pub long_file : {S : Type 0} (told : Option Files) (name : List ℕ) (result : Result (Vec ℕ) ImagesError) (error : ImagesError) (ending : Ending) → result ≡ Err error → error ≡ images.TooLong
    → ReadsNamed told name file_limit result → IsSaid (TooLong file_limit) ending S → IfSome told (λ files. ReadsFile (whole_file (get files name) file_limit) (Err ending))
long_file told name result error ending is why reads said =
    IfSome_then told (subst (λ (e : ImagesError). ReadsNamed told name file_limit (Err e)) why (subst (λ (r : Result (Vec ℕ) ImagesError). ReadsNamed told name file_limit r) is reads))
    (λ files long fine. subst (λ (f : Result (List ℕ) ImagesError). EndsFile f (λ bytes ending. ⊥) ending) (sym long) (said_is (TooLong file_limit) ending said fine))

-- a failure
pub no_file : (told : Option Files) (name : List ℕ) (ending : Ending) → (is_failure ending ≡ false → ⊥) → IfSome told (λ files. ReadsFile (whole_file (get files name) file_limit) (Err ending))
no_file None name ending failed = tt
no_file (Some files) name ending failed = λ fine. absurd (failed fine)

pub said_fails : {S : Type 0} (ending result : Ending) → IsSaid ending result S → is_failure ending ≡ true → is_failure result ≡ false → ⊥
said_fails ending result (inl is) failed fine = let t : true ≡ false = sym failed ∙ sym (ap is_failure is) ∙ fine in cc
said_fails ending result (inr both) failed fine = let t : true ≡ false = sym (ap is_failure both.0) ∙ fine in cc

-- the file was read, or it is as it was without it
pub file_ends : (file : Result (List ℕ) ImagesError) (next : List ℕ → Ending → Type 0) (ending : Ending) → EndsFile file (λ bytes ending. ⊥) ending → EndsFile file next ending
file_ends (Ok bytes) next ending ends = absurd ends
file_ends (Err images.Missing) next ending ends = absurd ends
file_ends (Err images.TooLong) next ending ends = ends
file_ends (Err images.Failed) next ending ends = absurd ends
file_ends (Err images.OutOfMemory) next ending ends = absurd ends

-- ---- the input

within : (n : ℕ) → n ≤ stream_limit → nat_lt stream_limit n ≡ false
within n le = grind (arith, nat_tests)

beyond : (n : ℕ) → stream_limit + 1 ≤ n → nat_lt stream_limit n ≡ true
beyond n le = grind (arith, nat_tests)

-- all of it came
pub fits_over : (left after : Option (List ℕ)) (bytes : List ℕ) → IfSome left (λ i. (bytes ≡ i) × (after ≡ Some [])) → length bytes ≤ stream_limit → EndsOver left Done
fits_over None after bytes read le = inl refl
fits_over (Some i) after bytes read le = sym (ap (λ (b : Bool). cond b (TooLong stream_limit) Done) (within (length i) (subst (λ (xs : List ℕ). length xs ≤ stream_limit) read.0 le)))

longer : (left bytes : List ℕ) (new : Option (List ℕ)) → Consumes (Some left) new bytes → length bytes ≤ length left
longer left bytes None lost = absurd lost
longer left bytes (Some rest) lost = omega (arith, ap length lost, length-append bytes rest)

-- more came
pub long_over : {S : Type 0} (left after : Option (List ℕ)) (ending : Ending) → IfSome left (λ i. (bytes : List ℕ) × (Consumes (Some i) after bytes) × (length bytes ≡ stream_limit + 1)) → IsSaid (TooLong stream_limit) ending S
    → is_failure ending ≡ false → EndsOver left ending
long_over None after ending lost said fine = inr (said_is (TooLong stream_limit) ending said fine)
long_over (Some i) after ending lost said fine =
    let le : length lost.0 ≤ length i = longer i lost.0 after lost.1 in
    said_is (TooLong stream_limit) ending said fine
    ∙ sym (ap (λ (b : Bool). cond b (TooLong stream_limit) Done) (beyond (length i) (omega (arith, lost.2, le))))

-- the command came to its end over it
pub done_over : (left : Option (List ℕ)) (ending : Ending) → EndsOver left Done → (is_failure ending ≡ false → ending ≡ Done) → is_failure ending ≡ false → EndsOver left ending
done_over left ending over done fine = subst (λ (e : Ending). EndsOver left e) (sym (done fine)) over

-- ---- a command behind the reading of its file

module _ (told : Option Files) (words : List (List ℕ)) (place : ℕ) (name : List ℕ) (next : List ℕ → Ending → Type 0) (ending : Ending) (names : name ≡ get_or words place []) where
  -- the file was read
  pub found_ends : (bytes items : List ℕ) → bytes ≡ items → IfSome told (λ files. whole_file (get files name) file_limit ≡ Ok items) → (is_failure ending ≡ false → next bytes ending)
      → IfSome told (λ files. is_failure ending ≡ false → EndsFile (whole_file (file_at words files place) file_limit) next ending)
  found_ends bytes items are found ends =
      subst (λ (n : List ℕ). IfSome told (λ files. is_failure ending ≡ false → EndsFile (whole_file (get files n) file_limit) next ending)) names
      (IfSome_then told found (λ files is fine. subst (λ (r : Result (List ℕ) ImagesError). EndsFile r next ending) (sym is) (subst (λ (xs : List ℕ). next xs ending) are (ends fine))))

  -- it wasn't
  pub unread_ends : IfSome told (λ files. ReadsFile (whole_file (get files name) file_limit) (Err ending))
      → IfSome told (λ files. is_failure ending ≡ false → EndsFile (whole_file (file_at words files place) file_limit) next ending)
  unread_ends unread =
      subst (λ (n : List ℕ). IfSome told (λ files. is_failure ending ≡ false → EndsFile (whole_file (get files n) file_limit) next ending)) names
      (IfSome_then told unread (λ files u fine. file_ends (whole_file (get files name) file_limit) next ending (u fine)))

-- a failure says nothing of them
pub failed_ends : (told : Option Files) (P : Files → Type 0) (ending : Ending) → is_failure ending ≡ true → IfSome told (λ files. is_failure ending ≡ false → P files)
failed_ends None P ending failed = tt
failed_ends (Some files) P ending failed = λ fine. let t : true ≡ false = sym failed ∙ fine in cc

-- whatever the files are
pub said_ends : {S : Type 0} (told : Option Files) (P : Files → Ending → Type 0) (ending result : Ending) → IsSaid ending result S → ((files : Files) → P files ending)
    → IfSome told (λ files. is_failure result ≡ false → P files result)
said_ends None P ending result said holds = tt
said_ends (Some files) P ending result said holds = λ fine. subst (λ (e : Ending). P files e) (sym (said_is ending result said fine)) (holds files)

-- ---- a command behind the reading of its image

pub refused_image : {S : Type 0} (r : Result Image ElfFault) (next : Ending → Type 0) (fault : ElfFault) (result : Ending) → Err fault ≡ r → IsSaid (ImageRefused fault) result S → is_failure result ≡ false → EndsImage r next result
refused_image r next fault result is said fine = subst (λ (x : Result Image ElfFault). EndsImage x next result) is (said_is (ImageRefused fault) result said fine)

pub opened_image : (r : Result Image ElfFault) (next : Ending → Type 0) (image : Image) (result : Ending) → Ok image ≡ r → next result → EndsImage r next result
opened_image r next image result is ends = subst (λ (x : Result Image ElfFault). EndsImage x next result) is ends

-- ---- a refused line

pub said_or : {S : Type 0} (ending result : Ending) → IsSaid ending result S → (result ≡ ending) ⊎ (result ≡ ErrorsFault)
said_or ending result (inl is) = inl is
said_or ending result (inr failed) = inr failed.0

-- neither the input nor the output was asked for anything, and something was said
pub words_leave : {S : Type 0} (fault : WordsFault) (result : Ending) → IsSaid (WordsRefused fault) result S → Leaves result (Unit {0}) (Unit {0}) ⊥ ⊥ ⊥ ⊥ S
words_leave fault result said = said_leaves (WordsRefused fault) result said refl refl refl (λ e. cc) (λ e. cc) (λ e. cc) (λ e. cc) tt tt
