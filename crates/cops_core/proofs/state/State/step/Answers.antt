use Rattle.cops_core.proofs.state.State.step.Goals as goal

pub returns-in-Put-clause-happens : goal.returns-in-Put-clause-happens
returns-in-Put-clause-happens c = rw c.in-Put.is c.put.ensures.happens

pub returns-in-Del-clause-happens : goal.returns-in-Del-clause-happens
returns-in-Del-clause-happens c = rw c.in-Del.is c.del.ensures.happens

pub returns-in-Get-clause-happens : goal.returns-in-Get-clause-happens
returns-in-Get-clause-happens c = rw c.in-Get.is c.get.ensures.happens

pub returns-in-Ask-clause-happens : goal.returns-in-Ask-clause-happens
returns-in-Ask-clause-happens c = rw c.in-Ask.is c.ask.ensures.happens

pub returns-in-Put-clause-memory : goal.returns-in-Put-clause-memory
returns-in-Put-clause-memory c = rw c.in-Put.is c.put.ensures.memory

pub returns-in-Del-clause-memory : goal.returns-in-Del-clause-memory
returns-in-Del-clause-memory c = rw c.in-Del.is c.del.ensures.memory

pub returns-in-Get-clause-memory : goal.returns-in-Get-clause-memory
returns-in-Get-clause-memory c = rw c.in-Get.is c.get.ensures.memory

pub returns-in-Ask-clause-memory : goal.returns-in-Ask-clause-memory
returns-in-Ask-clause-memory c = rw c.in-Ask.is c.ask.ensures.memory
