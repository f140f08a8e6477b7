use Rattle.capi.proofs.ExportLaws.{file_exported}
use Rattle.capi.proofs.roselhanda_file.Goals as goal

pub returns : goal.returns
returns c =
    file_exported _ _ _ _ _ _ _ c.file_call-filed.result c.file_call-filed.ensures c.tell_count.ensures.value c.tell_count.ensures.word_after
