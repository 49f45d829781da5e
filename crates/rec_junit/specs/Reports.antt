-- What holds of the parts of each report that a program has: its texts are UTF-8,
-- its times and its id are in range.
use Rattle.std.specs.List.{AllByRecursion}
use Rattle.std.specs.Prelude.{IfSome}
use Rattle.rec_events.specs.Names.{IsText}
use Rattle.rec_forms.specs.Ids.{IsUuid}
use Rattle.rec_forms.specs.Times.{IsStamp, IsDuration}
use Rattle.rec_junit.specs.declared.report.JunitCase.{JunitCase}
use Rattle.rec_junit.specs.declared.report.JunitProperty.{JunitProperty}
use Rattle.rec_junit.specs.declared.report.JunitReport.{JunitReport}
use Rattle.rec_junit.specs.declared.report.JunitRerun.{JunitRerun}
use Rattle.rec_junit.specs.declared.report.JunitStatus.TheVariants.{Success, NonSuccess, Skipped}
use Rattle.rec_junit.specs.declared.report.JunitStatus.{JunitStatus}
use Rattle.rec_junit.specs.declared.report.JunitSuite.{JunitSuite}

pub record IsRerun (r : JunitRerun) : Type 0 where
  pub type_text : IsText r.type_text
  pub message : IfSome r.message IsText
  pub description : IfSome r.description IsText
  pub timestamp : IfSome r.timestamp IsStamp
  pub time : IfSome r.time IsDuration
  pub system_out : IfSome r.system_out IsText
  pub system_err : IfSome r.system_err IsText

abbrev pub IsStatus : JunitStatus → Type 0
IsStatus (Success reruns) = AllByRecursion IsRerun reruns
IsStatus (NonSuccess kind type_text message description reruns rerun_kind) =
    IsText type_text × IfSome message IsText × IfSome description IsText
    × AllByRecursion IsRerun reruns
IsStatus (Skipped message) = IsText message

pub record IsCase (c : JunitCase) : Type 0 where
  pub name : IsText c.name
  pub classname : IsText c.classname
  pub status : IsStatus c.status
  pub timestamp : IfSome c.timestamp IsStamp
  pub time : IfSome c.time IsDuration
  pub system_out : IfSome c.system_out IsText
  pub system_err : IfSome c.system_err IsText

pub record IsProperty (p : JunitProperty) : Type 0 where
  pub name : IsText p.name
  pub value : IsText p.value

pub record IsSuite (s : JunitSuite) : Type 0 where
  pub name : IsText s.name
  pub cases : AllByRecursion IsCase s.cases
  pub properties : AllByRecursion IsProperty s.properties

pub record IsReport (r : JunitReport) : Type 0 where
  pub name : IsText r.name
  pub run_id : IsUuid r.run_id
  pub timestamp : IsStamp r.timestamp
  pub time : IsDuration r.time
  pub suites : AllByRecursion IsSuite r.suites
