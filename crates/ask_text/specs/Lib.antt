pub mod AskText
