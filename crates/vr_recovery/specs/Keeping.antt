-- Responses as they were before one more came.
use Rattle.std.specs.Prelude.{◌-◌, List, length, take, slice_set}
use Rattle.vr_log.specs.declared.state.Response.{Response}
use Rattle.vr_recovery.specs.declared.responses.Former.{Former}
use Rattle.vr_recovery.specs.declared.responses.Former.TheVariants.{Pushed, Replaced, Same}

abbrev pub restored : List Response → Former → List Response
restored responses Pushed = take (length responses - 1) responses
restored responses (Replaced place old) = slice_set responses place old
restored responses Same = responses
