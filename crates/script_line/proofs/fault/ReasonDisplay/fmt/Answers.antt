use Rattle.script_line.proofs.fault.ReasonDisplay.fmt.Goals as goal

pub returns-in-Missing-clause-writes : goal.returns-in-Missing-clause-writes
returns-in-Missing-clause-writes g c = rw c.in-Missing.is c.write.ensures.writes

pub returns-in-NoNumber-clause-writes : goal.returns-in-NoNumber-clause-writes
returns-in-NoNumber-clause-writes g c = rw c.in-NoNumber.is c.write-in-NoNumber.ensures.writes

pub returns-in-TooLarge-clause-writes : goal.returns-in-TooLarge-clause-writes
returns-in-TooLarge-clause-writes g c = rw (c.in-TooLarge.is, ← c.max.ensures) c.write-in-TooLarge.ensures.writes

pub returns-in-NoFrames-clause-writes : goal.returns-in-NoFrames-clause-writes
returns-in-NoFrames-clause-writes g c = rw c.in-NoFrames.is c.write-in-NoFrames.ensures.writes

pub returns-in-TooManyRecords-clause-writes : goal.returns-in-TooManyRecords-clause-writes
returns-in-TooManyRecords-clause-writes g c = rw c.in-TooManyRecords.is c.write-in-TooManyRecords.ensures.writes
