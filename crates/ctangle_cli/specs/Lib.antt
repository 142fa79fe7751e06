pub mod Arguments
pub mod RetangleArguments
pub mod Writing
pub mod Messages
pub mod WhatTheCompilerReads
pub mod Run
pub mod Conversation
