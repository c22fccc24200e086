pub mod MadeIds
