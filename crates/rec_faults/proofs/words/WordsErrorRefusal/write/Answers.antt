use Rattle.rec_faults.proofs.words.WordsErrorRefusal.write.Goals as goal

pub returns-in-NoCommand : goal.returns-in-NoCommand
returns-in-NoCommand g c = rw c.in-NoCommand.is c.name.ensures

pub returns-in-UnknownCommand : goal.returns-in-UnknownCommand
returns-in-UnknownCommand g c = rw c.in-UnknownCommand.is c.number.ensures

pub returns-in-MissingPositional : goal.returns-in-MissingPositional
returns-in-MissingPositional g c =
    rw c.in-MissingPositional.is c.number-in-MissingPositional.ensures

pub returns-in-BadNumber : goal.returns-in-BadNumber
returns-in-BadNumber g c = rw c.in-BadNumber.is c.number-in-BadNumber.ensures

pub returns-in-UnknownOption : goal.returns-in-UnknownOption
returns-in-UnknownOption g c = rw c.in-UnknownOption.is c.number-in-UnknownOption.ensures

pub returns-in-RepeatedOption : goal.returns-in-RepeatedOption
returns-in-RepeatedOption g c = rw c.in-RepeatedOption.is c.number-in-RepeatedOption.ensures

pub returns-in-MissingValue : goal.returns-in-MissingValue
returns-in-MissingValue g c = rw c.in-MissingValue.is c.number-in-MissingValue.ensures

pub returns-in-BadValue : goal.returns-in-BadValue
returns-in-BadValue g c = rw c.in-BadValue.is c.number-in-BadValue.ensures
