use Rattle.emu_run.specs.declared.thread.ThreadCall.TheVariants.{Clone, Futex, Exit, SetTidAddress, Gettid, Alone}
use Rattle.guest_threads.proofs.Made.{made_as, named}
use Rattle.guest_threads.proofs.held.Held.named_call.Goals as goal

pub returns-in-Clone : goal.returns-in-Clone
returns-in-Clone c = record {
  made = made_as _ _ _ _ _ (named c.args.self.now.world c.args.self.now.world.last c.name.result Clone c.name.ensures c.in-Clone.is) c.clone_context.ensures;
  kept = λ h. cc;
}

pub returns-in-Futex : goal.returns-in-Futex
returns-in-Futex c = record {
  made = made_as _ _ _ _ _ (named c.args.self.now.world c.args.self.now.world.last c.name.result Futex c.name.ensures c.in-Futex.is) c.futex.ensures;
  kept = λ h. cc;
}

pub returns-in-Exit : goal.returns-in-Exit
returns-in-Exit c = record {
  made = made_as _ _ _ _ _ (named c.args.self.now.world c.args.self.now.world.last c.name.result Exit c.name.ensures c.in-Exit.is) c.exit.ensures;
  kept = λ h. cc;
}

pub returns-in-SetTidAddress : goal.returns-in-SetTidAddress
returns-in-SetTidAddress c = record {
  made = made_as _ _ _ _ _ (named c.args.self.now.world c.args.self.now.world.last c.name.result SetTidAddress c.name.ensures c.in-SetTidAddress.is) c.set_tid_address.ensures;
  kept = λ h. cc;
}

pub returns-in-Gettid : goal.returns-in-Gettid
returns-in-Gettid c = record {
  made = made_as _ _ _ _ _ (named c.args.self.now.world c.args.self.now.world.last c.name.result Gettid c.name.ensures c.in-Gettid.is) c.gettid.ensures;
  kept = λ h. cc;
}

pub returns-in-Alone-clause-made : goal.returns-in-Alone-clause-made
returns-in-Alone-clause-made c = named c.args.self.now.world c.args.self.now.world.last c.name.result Alone c.name.ensures c.in-Alone.is
